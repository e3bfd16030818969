-- What reading keeps: where it stands, which words it may write, and what the name list says.
use Prim.Native.Nat.{ℕ, ◌+◌, ◌*◌, ◌/◌, ◌%◌, ◌≤◌, ◌<◌}
use native.Mathlib.Nat.{le_refl}
use native.Mathlib.Omega.{arith}
use mathlib.Core.Path.{◌≡◌, refl, sym, ap, ◌∙◌}
use mathlib.Core.Logic.{◌⊎◌}
use mathlib.Core.Bool.{Bool, true, false}
use mathlib.Core.List.{List}
use lib.Dec.{ltb}
use lib.ListN.{length, get_or, set, length-set}
use lib.Seq.{get_or-set_same, get_or-set_other}
use borrow.Author.Tests.{ltb-true, ltb-false}
use lib.IntN.{ℤ, nat_abs}
use Rattle.value.specs.Worked.{decode_of}
use Rattle.token.specs.Kind.{kind, delimiter}
use Rattle.token.specs.Bytes.{same}
use Rattle.names.specs.declared.Entry.{Entry}
use Rattle.names.specs.Names.{name_kind, entry_at, with_entry, with_value, variables_in, letters}
use Rattle.program.specs.Table.{word_at, with_word}
use Rattle.grammar.specs.Reader.{Input, State}
use Rattle.read_links.proofs.Theorems.Steps.{advanced, written}

-- ---- the text that is read: what scanning has left in the table

abbrev pub tokens : Input → ℕ
tokens input = input.scan.count

abbrev pub head_at : List ℕ → ℕ → ℕ
head_at text i = get_or text (4 * i) 0

abbrev pub span_at : List ℕ → ℕ → ℕ
span_at text i = get_or text (4 * i + 1) 0

-- two tokens are spelled alike
abbrev pub alike : Input → ℕ → ℕ → ℕ → ℕ → Bool
alike input start n start' n' = same (letters input.source start n) (letters input.source start' n')

pub record Text (input : Input) (text : List ℕ) : Type 0 where
  pub few : tokens input ≤ 4096
  pub size : length text ≡ 16384
  -- a literal's value is at most 2147483647, and a `:=` has none
  pub values : (i : ℕ) → word_at text i 2 < 2147483648
  pub clean : (i : ℕ) → head_at text i ≡ delimiter.assign → word_at text i 2 ≡ 0
  -- no token has a word 3
  pub unlinked : (i : ℕ) → word_at text i 3 ≡ 0
  -- a name is not spelled as `cell` or `time` is
  pub apart : (i j : ℕ) → i < tokens input → j < tokens input → head_at text i ≡ kind.name → (head_at text j ≡ kind.cell) ⊎ (head_at text j ≡ kind.time)
      → alike input (span_at text j % 65536) (span_at text j / 65536) (span_at text i % 65536) (span_at text i / 65536) ≡ true → ⊥

-- ---- a state that reading can be in

-- a number that is a literal with at most one sign
abbrev pub Signable : ℤ → Type 0
Signable z = nat_abs z ≤ 2147483647

-- an entry of the name list: of a name's token; an array constant's declaration lies before the position, and if no refusal is noted
-- its list too
pub record Entered (input : Input) (text words : List ℕ) (at noted : ℕ) (e : Entry) : Type 0 where
  pub some_kind : 0 < e.kind
  pub a_kind : e.kind < 7
  pub small : e.kind ≡ name_kind.constant → Signable (decode_of e.word)
  pub before : e.kind ≡ name_kind.array → e.word < at
  pub listed : noted ≡ 0 → e.kind ≡ name_kind.array → word_at words e.word 3 + word_at words e.word 2 ≤ at
  pub token : ℕ
  pub inside : token < tokens input
  pub a_name : head_at text token ≡ kind.name
  pub start_is : e.start ≡ span_at text token % 65536
  pub len_is : e.len ≡ span_at text token / 65536

pub record Sound (input : Input) (text : List ℕ) (s : State) : Type 0 where
  pub size : length s.words ≡ 16384
  pub within : s.at ≤ tokens input
  pub room : length s.names ≡ 1024
  pub most : s.count ≤ 256
  pub heads : (i : ℕ) → head_at s.words i ≡ head_at text i
  pub spans : (i : ℕ) → span_at s.words i ≡ span_at text i
  pub ahead : (j : ℕ) → 4 * s.at ≤ j → get_or s.words j 0 ≡ get_or text j 0
  pub entries : (slot : ℕ) → slot < s.count → Entered input text s.words s.at s.noted.number (entry_at s.names slot)
  -- a variable's number is how many variables stand before it, and behind the names are zeros
  pub numbered : (slot : ℕ) → slot < s.count → (entry_at s.names slot).kind ≡ name_kind.variable → (entry_at s.names slot).word ≡ variables_in s.names slot
  pub rest : (j : ℕ) → 4 * s.count ≤ j → j < 1024 → get_or s.names j 0 ≡ 0

-- reading went from one state to another: it wrote nothing before the first, and kept the names. An array constant declared meanwhile
-- has its name and its list behind the first token. Of the names declared meanwhile only that in one slot may be an index
pub record RunBut (input : Input) (text : List ℕ) (s t : State) (held : ℕ) : Type 0 where
  pub on : s.at ≤ t.at
  pub clear : t.noted.number ≡ 0 → s.noted.number ≡ 0
  pub sound : Sound input text t
  pub below : (j : ℕ) → j < 4 * s.at → get_or t.words j 0 ≡ get_or s.words j 0
  pub more : s.count ≤ t.count
  pub old : (slot : ℕ) → slot < s.count → entry_at t.names slot ≡ entry_at s.names slot
  pub new : (slot : ℕ) → s.count ≤ slot → slot < t.count → (entry_at t.names slot).kind ≡ name_kind.array
      → (s.at < (entry_at t.names slot).word) × (s.at < word_at t.words (entry_at t.names slot).word 3)
  -- no variable was taken out
  pub grown : variables_in s.names s.count ≤ variables_in t.names t.count
  -- every other loop that began has ended
  pub shut : (slot : ℕ) → s.count ≤ slot → slot < t.count → (entry_at t.names slot).kind ≡ name_kind.index → slot ≡ held

-- no loop that began is open: there is no slot 256
abbrev pub Run : Input → List ℕ → State → State → Type 0
Run input text s t = RunBut input text s t 256

-- ---- words after a write

pub word_put : (words : List ℕ) (i w v : ℕ) → 4 * i + w < length words → word_at (with_word words i w v) i w ≡ v
word_put words i w v l = get_or-set_same words (4 * i + w) v 0 l

pub word_other : (words : List ℕ) (i w v j : ℕ) → (j ≡ 4 * i + w → ⊥) → get_or (with_word words i w v) j 0 ≡ get_or words j 0
word_other words i w v j q = get_or-set_other words (4 * i + w) j v 0 q

-- both links of a token
module _ (words : List ℕ) (i a b : ℕ) (l : 4 * i + 3 < length words) where
  pub both_2 : word_at (with_word (with_word words i 2 a) i 3 b) i 2 ≡ a
  both_2 = word_other (with_word words i 2 a) i 3 b (4 * i + 2) (λ q. absurd (omega arith)) ∙ word_put words i 2 a (omega arith)

  pub both_3 : word_at (with_word (with_word words i 2 a) i 3 b) i 3 ≡ b
  both_3 = word_put (with_word words i 2 a) i 3 b (omega (arith, length-set words (4 * i + 2) a))

-- ---- entries after a write

-- a list in which two names are the same, and one name is written
entry_other : (names : List ℕ) (i v slot c : ℕ) → 4 * c ≤ i → i < 4 * c + 4 → (slot ≡ c → ⊥) → entry_at (set names i v) slot ≡ entry_at names slot
unfolding entry_at
entry_other names i v slot c l m d = λ x. record {
  start = at (4 * slot) (λ e. d (omega arith)) x;
  len = at (4 * slot + 1) (λ e. d (omega arith)) x;
  kind = at (4 * slot + 2) (λ e. d (omega arith)) x;
  word = at (4 * slot + 3) (λ e. d (omega arith)) x;
}
  where
    at : (j : ℕ) → (j ≡ i → ⊥) → get_or (set names i v) j 0 ≡ get_or names j 0
    at j q = get_or-set_other names i j v 0 q

pub entry_kept : (names : List ℕ) (c : ℕ) (e : Entry) (slot : ℕ) → (slot ≡ c → ⊥) → entry_at (with_entry names c e) slot ≡ entry_at names slot
entry_kept names c e slot d =
    entry_other _ (4 * c + 3) e.word slot c (omega arith) (omega arith) d ∙ entry_other _ (4 * c + 2) e.kind slot c (omega arith) (omega arith) d
    ∙ entry_other _ (4 * c + 1) e.len slot c (omega arith) (omega arith) d ∙ entry_other names (4 * c) e.start slot c (omega arith) (omega arith) d

-- the words behind it
pub words_behind : (names : List ℕ) (c : ℕ) (e : Entry) (j : ℕ) → 4 * c + 4 ≤ j → get_or (with_entry names c e) j 0 ≡ get_or names j 0
words_behind names c e j l =
    let n₀ = set names (4 * c) e.start in
    let n₁ = set n₀ (4 * c + 1) e.len in
    let n₂ = set n₁ (4 * c + 2) e.kind in
    get_or-set_other n₂ (4 * c + 3) j e.word 0 (λ q. absurd (omega arith)) ∙ get_or-set_other n₁ (4 * c + 2) j e.kind 0 (λ q. absurd (omega arith))
    ∙ get_or-set_other n₀ (4 * c + 1) j e.len 0 (λ q. absurd (omega arith)) ∙ get_or-set_other names (4 * c) j e.start 0 (λ q. absurd (omega arith))

pub value_kept : (names : List ℕ) (c v slot : ℕ) → (slot ≡ c → ⊥) → entry_at (with_value names c v) slot ≡ entry_at names slot
value_kept names c v slot d = entry_other names (4 * c + 3) v slot c (omega arith) (omega arith) d

-- the name that is written, where there is room
pub entry_new : (names : List ℕ) (c : ℕ) (e : Entry) → 4 * c + 4 ≤ length names → entry_at (with_entry names c e) c ≡ e
unfolding entry_at
entry_new names c e l = λ x. record { start = is_start x; len = is_len x; kind = is_kind x; word = is_word x }
  where
    n₀ : List ℕ
    n₀ = set names (4 * c) e.start

    n₁ : List ℕ
    n₁ = set n₀ (4 * c + 1) e.len

    n₂ : List ℕ
    n₂ = set n₁ (4 * c + 2) e.kind

    l₀ : length n₀ ≡ length names
    l₀ = length-set names (4 * c) e.start

    l₁ : length n₁ ≡ length names
    l₁ = length-set n₀ (4 * c + 1) e.len ∙ l₀

    l₂ : length n₂ ≡ length names
    l₂ = length-set n₁ (4 * c + 2) e.kind ∙ l₁

    is_word : get_or (set n₂ (4 * c + 3) e.word) (4 * c + 3) 0 ≡ e.word
    is_word = get_or-set_same n₂ (4 * c + 3) e.word 0 (omega (arith, l₂))

    is_kind : get_or (set n₂ (4 * c + 3) e.word) (4 * c + 2) 0 ≡ e.kind
    is_kind = get_or-set_other n₂ (4 * c + 3) (4 * c + 2) e.word 0 (λ q. absurd (omega arith)) ∙ get_or-set_same n₁ (4 * c + 2) e.kind 0 (omega (arith, l₁))

    is_len : get_or (set n₂ (4 * c + 3) e.word) (4 * c + 1) 0 ≡ e.len
    is_len =
        get_or-set_other n₂ (4 * c + 3) (4 * c + 1) e.word 0 (λ q. absurd (omega arith)) ∙ get_or-set_other n₁ (4 * c + 2) (4 * c + 1) e.kind 0 (λ q. absurd (omega arith))
        ∙ get_or-set_same n₀ (4 * c + 1) e.len 0 (omega (arith, l₀))

    is_start : get_or (set n₂ (4 * c + 3) e.word) (4 * c) 0 ≡ e.start
    is_start =
        get_or-set_other n₂ (4 * c + 3) (4 * c) e.word 0 (λ q. absurd (omega arith)) ∙ get_or-set_other n₁ (4 * c + 2) (4 * c) e.kind 0 (λ q. absurd (omega arith))
        ∙ get_or-set_other n₀ (4 * c + 1) (4 * c) e.len 0 (λ q. absurd (omega arith)) ∙ get_or-set_same names (4 * c) e.start 0 (omega arith)

-- ---- entries at a later state

module _ {input : Input} {text words : List ℕ} {at noted : ℕ} {e : Entry} where
  -- the same of words that are the same at an array constant's name
  pub entered_kept : Entered input text words at noted e → {words' : List ℕ} {at' noted' : ℕ} → at ≤ at' → (noted' ≡ 0 → noted ≡ 0) → (e.kind ≡ name_kind.array → e.word < at → (w : ℕ) → w < 4 → word_at words' e.word w ≡ word_at words e.word w) → Entered input text words' at' noted' e
  entered_kept x {words'} {at'} {noted'} l c k =
      record {
        some_kind = x.some_kind;
        a_kind = x.a_kind;
        small = x.small;
        before = λ q. omega (arith, x.before q);
        listed = λ z q. let p = k q (x.before q) 3 (omega arith) in let r = k q (x.before q) 2 (omega arith) in omega (arith, x.listed (c z) q);
        token = x.token;
        inside = x.inside;
        a_name = x.a_name;
        start_is = x.start_is;
        len_is = x.len_is;
      }

-- ---- a state's next

module _ {input : Input} {text : List ℕ} where
  pub stay : {s : State} → Sound input text s → Run input text s s
  stay {s} x = record { on = le_refl s.at; clear = λ z. z; sound = x; below = λ j l. refl; more = le_refl s.count; old = λ slot l. refl; new = λ slot l m k. absurd (omega arith); grown = le_refl _; shut = λ slot l m k. absurd (omega arith) }

  -- the same where a loop may be open
  pub but : {s t : State} → Run input text s t → (held : ℕ) → RunBut input text s t held
  but r held =
      record {
        on = r.on;
        clear = r.clear;
        sound = r.sound;
        below = r.below;
        more = r.more;
        old = r.old;
        new = r.new;
        grown = r.grown;
        shut = λ slot l m k. absurd (omega (arith, r.shut slot l m k, r.sound.most));
      }

  pub join : {s t u : State} {held : ℕ} → RunBut input text s t held → RunBut input text t u held → RunBut input text s u held
  join {s} {t} {u} {held} a b =
      record {
        on = omega (arith, a.on, b.on);
        clear = λ z. a.clear (b.clear z);
        sound = b.sound;
        below = λ j l. b.below j (omega (arith, a.on)) ∙ a.below j l;
        more = omega (arith, a.more, b.more);
        old = λ slot l. b.old slot (omega (arith, a.more)) ∙ a.old slot l;
        new = λ slot l m k. by slot l m k (ltb slot t.count) refl;
        grown = omega (arith, a.grown, b.grown);
        shut = λ slot l m k. one slot l m k (ltb slot t.count) refl;
      }
    where
      one : (slot : ℕ) → s.count ≤ slot → slot < u.count → (entry_at u.names slot).kind ≡ name_kind.index → (x : Bool) → ltb slot t.count ≡ x → slot ≡ held
      one slot l m k true q = let h = ltb-true slot t.count q in a.shut slot l h (ap (λ (y : Entry). y.kind) (sym (b.old slot h)) ∙ k)
      one slot l m k false q = b.shut slot (ltb-false slot t.count q) m k

      by : (slot : ℕ) → s.count ≤ slot → slot < u.count → (entry_at u.names slot).kind ≡ name_kind.array → (x : Bool) → ltb slot t.count ≡ x
          → (s.at < (entry_at u.names slot).word) × (s.at < word_at u.words (entry_at u.names slot).word 3)
      by slot l m k true q =
          let h = ltb-true slot t.count q in
          let e = b.old slot h in
          let kt : (entry_at t.names slot).kind ≡ name_kind.array = ap (λ (y : Entry). y.kind) (sym e) ∙ k in
          let wt : (entry_at u.names slot).word ≡ (entry_at t.names slot).word = ap (λ (y : Entry). y.word) e in
          let p = a.new slot l h kt in
          let d = (a.sound.entries slot h).before kt in
          let f : word_at u.words (entry_at u.names slot).word 3 ≡ word_at t.words (entry_at t.names slot).word 3 = ap (λ (y : ℕ). word_at u.words y 3) wt ∙ b.below (4 * (entry_at t.names slot).word + 3) (omega arith) in
          (omega (arith, p.0), omega (arith, p.1))
      by slot l m k false q = let p = b.new slot (ltb-false slot t.count q) m k in (omega (arith, p.0, a.on), omega (arith, p.1, a.on))

  pub go_on : {s : State} → Sound input text s → s.at < tokens input → Run input text s (advanced s)
  go_on {s} x l =
      record {
        on = omega arith;
        clear = λ z. z;
        sound = record {
          size = x.size;
          within = omega arith;
          room = x.room;
          most = x.most;
          heads = x.heads;
          spans = x.spans;
          ahead = λ j m. x.ahead j (omega arith);
          entries = λ slot m. entered_kept (x.entries slot m) (omega arith) (λ z. z) (λ q r w o. refl);
          numbered = x.numbered;
          rest = x.rest;
        };
        below = λ j m. refl;
        more = le_refl s.count;
        old = λ slot m. refl;
        new = λ slot m o k. absurd (omega arith);
        grown = le_refl _;
        shut = λ slot m o k. absurd (omega arith);
      }

  -- words 2 and 3 of a token that is read may be written, if it is no array constant's name that was declared meanwhile
  pub write : {s t : State} → Sound input text s → Run input text s t → (i w v : ℕ) → s.at ≤ i → i < t.at → 2 ≤ w → w < 4
      → ((slot : ℕ) → s.count ≤ slot → slot < t.count → (entry_at t.names slot).kind ≡ name_kind.array → i < (entry_at t.names slot).word) → Run input text s (written t i w v)
  write {s} {t} x r i w v lo hi w₂ w₄ avoid =
      record {
        on = r.on;
        clear = r.clear;
        sound = record {
          size = length-set t.words (4 * i + w) v ∙ r.sound.size;
          within = r.sound.within;
          room = r.sound.room;
          most = r.sound.most;
          heads = λ k. other (4 * k) (λ q. absurd (omega arith)) ∙ r.sound.heads k;
          spans = λ k. other (4 * k + 1) (λ q. absurd (omega arith)) ∙ r.sound.spans k;
          ahead = λ j m. other j (λ q. absurd (omega arith)) ∙ r.sound.ahead j m;
          entries = λ slot m. entered_kept (r.sound.entries slot m) (le_refl t.at) (λ z. z) (λ q l u o. other (4 * (entry_at t.names slot).word + u) (λ p. away slot m q (omega arith)));
          numbered = r.sound.numbered;
          rest = r.sound.rest;
        };
        below = λ j m. other j (λ q. absurd (omega arith)) ∙ r.below j m;
        more = r.more;
        old = r.old;
        new = λ slot l m k. ((r.new slot l m k).0, rw (other (4 * (entry_at t.names slot).word + 3) (λ p. away slot m k (omega arith))) (r.new slot l m k).1);
        grown = r.grown;
        shut = r.shut;
      }
    where
      other : (j : ℕ) → (j ≡ 4 * i + w → ⊥) → get_or (set t.words (4 * i + w) v) j 0 ≡ get_or t.words j 0
      other j q = get_or-set_other t.words (4 * i + w) j v 0 q

      away : (slot : ℕ) → slot < t.count → (entry_at t.names slot).kind ≡ name_kind.array → (entry_at t.names slot).word ≡ i → ⊥
      away slot m k = by (ltb slot s.count) refl
        where
          by : (z : Bool) → ltb slot s.count ≡ z → (entry_at t.names slot).word ≡ i → ⊥
          by true q =
              let l = ltb-true slot s.count q in
              let e = r.old slot l in
              let d = (x.entries slot l).before (ap (λ (y : Entry). y.kind) (sym e) ∙ k) in
              let f : (entry_at t.names slot).word ≡ (entry_at s.names slot).word = ap (λ (y : Entry). y.word) e in
              λ p. omega arith
          by false q = let a = avoid slot (ltb-false slot s.count q) m k in λ p. omega arith

  -- the first token's words may be written, once it is read
  pub write_first : {s t : State} → Sound input text s → Run input text s t → (w v : ℕ) → s.at < t.at → 2 ≤ w → w < 4 → Run input text s (written t s.at w v)
  write_first {s} {t} x r w v hi w₂ w₄ = write x r s.at w v (le_refl s.at) hi w₂ w₄ (λ slot l m k. (r.new slot l m k).0)

  -- any token's words, where no name was declared meanwhile
  pub write_plain : {s t : State} → Sound input text s → Run input text s t → t.count ≡ s.count → (i w v : ℕ) → s.at ≤ i → i < t.at → 2 ≤ w → w < 4 → Run input text s (written t i w v)
  write_plain {s} {t} x r c i w v lo hi w₂ w₄ = write x r i w v lo hi w₂ w₄ (λ slot l m k. absurd (omega arith))
