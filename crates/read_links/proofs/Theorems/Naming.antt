-- What reading keeps where it declares a name, and what is known of the tokens and names that it looks at.
use Prim.Native.Nat.{ℕ, zero, suc, ◌+◌, ◌-◌, ◌*◌, ◌/◌, ◌%◌, ◌≤◌, ◌<◌}
use native.Mathlib.Nat.{le_refl}
use native.Mathlib.Omega.{arith}
use mathlib.Core.Path.{◌≡◌, refl, sym, ap, ◌∙◌, subst}
use mathlib.Core.Bool.{Bool, true, false, ◌&&◌}
use mathlib.Core.List.{List}
use mathlib.Core.Option.{some}
use lib.Dec.{eqb, ltb}
use lib.ListN.{length, length-set}
use borrow.Author.Tests.{ltb-true, ltb-false, lt-ltb, eqb-true, eqb-false}
use Rattle.std.specs.Prelude.{if◌then◌else◌}
use Rattle.value.proofs.Theorems.Laws.{and_both}
use Rattle.value.specs.Worked.{decode_of}
use Rattle.token.specs.Kind.{kind}
use Rattle.token.specs.Bytes.{same}
use Rattle.token.specs.Scanning.{token_in, token_at, stop_of}
use Rattle.names.specs.declared.Entry.{Entry}
use Rattle.names.specs.Names.{name_kind, entry_at, entries_from, with_entry, without_entry, variables_in, in_space, letters, find, find_name}
use Rattle.program.specs.Table.{word_at}
use Rattle.program.specs.Refusal.{Refusal, refusal}
use Rattle.grammar.specs.Ranking.{before, first_of}
use Rattle.grammar.specs.Reader.{Input, State, token_of}
use Rattle.read_links.proofs.Theorems.Steps.{named, released, noting}
use Rattle.read_links.proofs.Theorems.Runs.{tokens, head_at, span_at, Signable, Entered, Sound, RunBut, Run, entered_kept, entry_kept, words_behind, entry_new}
use Rattle.read_links.proofs.Theorems.Removing.{without_length, entry_before, entry_behind, rest_zero, variables_kept, variables_more, variables_without}

-- ---- the tokens

-- a token's kind, by the text; 0 past the last
unfoldable pub kind_at : Input → List ℕ → ℕ → ℕ
kind_at input text i = if ltb i (tokens input) then head_at text i else 0

module _ {input : Input} {text : List ℕ} {s : State} (x : Sound input text s) where
  pub token_kind : (i : ℕ) → (token_of input s i).kind ≡ kind_at input text i
  unfolding kind_at token_in
  token_kind i = by (ltb i (tokens input))
    where
      by : (b : Bool) → (if b then token_at s.words i else stop_of input.scan).kind ≡ (if b then head_at text i else 0)
      by true = x.heads i
      by false = refl

  pub token_start : (i : ℕ) → i < tokens input → (token_of input s i).start ≡ span_at text i % 65536
  unfolding token_in
  token_start i l = rw (lt-ltb i (tokens input) l) (ap (λ (y : ℕ). y % 65536) (x.spans i))

  pub token_len : (i : ℕ) → i < tokens input → (token_of input s i).len ≡ span_at text i / 65536
  unfolding token_in
  token_len i l = rw (lt-ltb i (tokens input) l) (ap (λ (y : ℕ). y / 65536) (x.spans i))

  pub token_value : (i : ℕ) → i < tokens input → (token_of input s i).value ≡ word_at s.words i 2
  unfolding token_in
  token_value i l = rw (lt-ltb i (tokens input) l)

  -- a token that is no stop
  pub token_inside : (i : ℕ) → 0 < (token_of input s i).kind → i < tokens input
  unfolding token_in
  token_inside i l = by (ltb i (tokens input)) refl l
    where
      by : (b : Bool) → ltb i (tokens input) ≡ b → 0 < (if b then token_at s.words i else stop_of input.scan).kind → i < tokens input
      by true q h = ltb-true i (tokens input) q
      by false q h = absurd (omega arith)

  -- a token of a kind
  pub of_kind : (i k : ℕ) → 0 < k → eqb (token_of input s i).kind k ≡ true → i < tokens input
  of_kind i k l q = let e = eqb-true (token_of input s i).kind k q in token_inside i (omega arith)

  pub head_is : (i k : ℕ) → 0 < k → eqb (token_of input s i).kind k ≡ true → head_at text i ≡ k
  unfolding kind_at
  head_is i k l q = let h : kind_at input text i ≡ head_at text i = rw (lt-ltb i (tokens input) (of_kind i k l q)) in sym h ∙ sym (token_kind i) ∙ eqb-true _ _ q

-- ---- declarations

module _ {input : Input} {text : List ℕ} {s t : State} (r : Run input text s t) where
  pub name_it : (i k v : ℕ) → i < tokens input → head_at text i ≡ kind.name → t.count < 256 → 0 < k → k < 7 → (k ≡ name_kind.constant → Signable (decode_of v))
      → (k ≡ name_kind.array → (s.at < v) × (v < t.at) × (s.at < word_at t.words v 3) × (t.noted.number ≡ 0 → word_at t.words v 3 + word_at t.words v 2 ≤ t.at))
      → (k ≡ name_kind.variable → v ≡ variables_in t.names t.count) → {held : ℕ} → (k ≡ name_kind.index → t.count ≡ held) → RunBut input text s (named input t i k v) held
  name_it i k v l name room k₀ k₇ small array number {held} index =
      record {
        on = r.on;
        clear = r.clear;
        sound = record {
          size = x.size;
          within = x.within;
          room = simp length-set x.room;
          most = omega arith;
          heads = x.heads;
          spans = x.spans;
          ahead = x.ahead;
          entries = λ slot m. one slot m (eqb slot t.count) refl;
          numbered = λ slot m q. three slot m q (eqb slot t.count) refl;
          rest = λ j m o. words_behind t.names t.count e j (omega arith) ∙ x.rest j (omega arith) o;
        };
        below = r.below;
        more = omega (arith, r.more);
        old = λ slot m. entry_kept t.names t.count e slot (λ q. omega (arith, r.more)) ∙ r.old slot m;
        new = λ slot m o q. two slot m o q (eqb slot t.count) refl;
        grown = omega (arith, r.grown, before t.count (le_refl _), (variables_more (with_entry t.names t.count e) t.count 1).0);
        shut = λ slot m o q. four slot m o q (eqb slot t.count) refl;
      }
    where
      x : Sound input text t
      x = r.sound

      e : Entry
      e = record { start = (token_of input t i).start; len = (token_of input t i).len; kind = k; word = v }

      last : entry_at (with_entry t.names t.count e) t.count ≡ e
      last = entry_new t.names t.count e (omega (arith, r.sound.room))

      fresh : Entered input text t.words t.at t.noted.number e
      fresh = record {
        some_kind = k₀;
        a_kind = k₇;
        small = small;
        before = λ q. (array q).1;
        listed = λ z q. (array q).3 z;
        token = i;
        inside = l;
        a_name = name;
        start_is = token_start x i l;
        len_is = token_len x i l;
      }

      one : (slot : ℕ) → slot < t.count + 1 → (b : Bool) → eqb slot t.count ≡ b → Entered input text t.words t.at t.noted.number (entry_at (with_entry t.names t.count e) slot)
      one slot m true q = subst (λ (y : ℕ). Entered input text t.words t.at t.noted.number (entry_at (with_entry t.names t.count e) y)) (sym (eqb-true slot t.count q)) (subst (λ (y : Entry). Entered input text t.words t.at t.noted.number y) (sym last) fresh)
      one slot m false q =
          let d = eqb-false slot t.count q in
          subst (λ (y : Entry). Entered input text t.words t.at t.noted.number y) (sym (entry_kept t.names t.count e slot d)) (r.sound.entries slot (omega arith))

      Behind : Entry → Type 0
      Behind y = (s.at < y.word) × (s.at < word_at t.words y.word 3)

      two : (slot : ℕ) → s.count ≤ slot → slot < t.count + 1 → (entry_at (with_entry t.names t.count e) slot).kind ≡ name_kind.array → (b : Bool) → eqb slot t.count ≡ b → Behind (entry_at (with_entry t.names t.count e) slot)
      two slot m o q true c =
          let p = eqb-true slot t.count c in
          let f : entry_at (with_entry t.names t.count e) slot ≡ e = ap (λ (y : ℕ). entry_at (with_entry t.names t.count e) y) p ∙ last in
          let a = array (ap (λ (y : Entry). y.kind) (sym f) ∙ q) in
          subst Behind (sym f) (a.0, a.2)
      two slot m o q false c =
          let d = eqb-false slot t.count c in
          let f = entry_kept t.names t.count e slot d in
          subst Behind (sym f) (r.new slot m (omega arith) (ap (λ (y : Entry). y.kind) (sym f) ∙ q))

      -- the variables before a slot, up to its own
      before : (slot : ℕ) → slot ≤ t.count → variables_in (with_entry t.names t.count e) slot ≡ variables_in t.names slot
      before slot m = variables_kept t.names (with_entry t.names t.count e) slot (λ j o. ap (λ (y : Entry). y.kind) (entry_kept t.names t.count e j (λ q. omega arith)))

      three : (slot : ℕ) → slot < t.count + 1 → (entry_at (with_entry t.names t.count e) slot).kind ≡ name_kind.variable → (b : Bool) → eqb slot t.count ≡ b
          → (entry_at (with_entry t.names t.count e) slot).word ≡ variables_in (with_entry t.names t.count e) slot
      three slot m q true c =
          let p = eqb-true slot t.count c in
          let f : entry_at (with_entry t.names t.count e) slot ≡ e = ap (λ (y : ℕ). entry_at (with_entry t.names t.count e) y) p ∙ last in
          ap (λ (y : Entry). y.word) f ∙ number (ap (λ (y : Entry). y.kind) (sym f) ∙ q) ∙ ap (variables_in t.names) (sym p) ∙ sym (before slot (omega arith))
      three slot m q false c =
          let d = eqb-false slot t.count c in
          let f = entry_kept t.names t.count e slot d in
          ap (λ (y : Entry). y.word) f ∙ x.numbered slot (omega arith) (ap (λ (y : Entry). y.kind) (sym f) ∙ q) ∙ sym (before slot (omega arith))

      four : (slot : ℕ) → s.count ≤ slot → slot < t.count + 1 → (entry_at (with_entry t.names t.count e) slot).kind ≡ name_kind.index → (b : Bool) → eqb slot t.count ≡ b → slot ≡ held
      four slot m o q true c =
          let p = eqb-true slot t.count c in
          let f : entry_at (with_entry t.names t.count e) slot ≡ e = ap (λ (y : ℕ). entry_at (with_entry t.names t.count e) y) p ∙ last in
          p ∙ index (ap (λ (y : Entry). y.kind) (sym f) ∙ q)
      four slot m o q false c =
          let d = eqb-false slot t.count c in
          let f = entry_kept t.names t.count e slot d in
          absurd (omega (arith, r.shut slot m (omega arith) (ap (λ (y : Entry). y.kind) (sym f) ∙ q), room))

-- an index's record is free again
module _ {input : Input} {text : List ℕ} {s t : State} (slot : ℕ) (r : RunBut input text s t slot) where
  pub release_it : s.count ≤ slot → slot < t.count → (entry_at t.names slot).kind ≡ name_kind.index → Run input text s (released t slot)
  release_it l m k =
      record {
        on = r.on;
        clear = r.clear;
        sound = record {
          size = x.size;
          within = x.within;
          room = without_length t.names slot held ∙ x.room;
          most = omega (arith, x.most);
          heads = x.heads;
          spans = x.spans;
          ahead = x.ahead;
          entries = λ j o. let f = from j o in subst (λ (y : Entry). Entered input text t.words t.at t.noted.number y) (sym f.3) (x.entries f.0 f.1);
          numbered = λ j o q. let f = from j o in ap (λ (y : Entry). y.word) f.3 ∙ x.numbered f.0 f.1 (ap (λ (y : Entry). y.kind) (sym f.3) ∙ q) ∙ sym f.4;
          rest = λ j o p. rest_zero t.names slot held (t.count - 1) (omega arith) (λ i n u. x.rest i (omega arith) (omega (arith, x.room))) j o (omega (arith, x.room));
        };
        below = r.below;
        more = omega arith;
        old = λ j o. entry_before t.names slot held j (omega arith) ∙ r.old j o;
        new = λ j o p q.
            let f = from j p in
            subst (λ (y : Entry). (s.at < y.word) × (s.at < word_at t.words y.word 3)) (sym f.3) (r.new f.0 (omega (arith, f.2)) f.1 (ap (λ (y : Entry). y.kind) (sym f.3) ∙ q));
        grown = subst (λ (n : ℕ). variables_in s.names s.count ≤ n) (sym (as_many (t.count - 1) (omega arith) (omega arith) ∙ ap (variables_in t.names) (omega arith))) r.grown;
        shut = λ j o p q.
            let f = from j p in
            absurd (f.5 (r.shut f.0 (omega (arith, f.2)) f.1 (ap (λ (y : Entry). y.kind) (sym f.3) ∙ q)));
      }
    where
      x : Sound input text t
      x = r.sound

      held : 4 * slot + 4 ≤ length t.names
      held = omega (arith, x.room, x.most)

      -- as many variables stand before a name that moves down
      as_many : (j : ℕ) → slot ≤ j → j < t.count → variables_in (without_entry t.names slot) j ≡ variables_in t.names (j + 1)
      as_many j p o =
          let e : slot + (j - slot) ≡ j = omega arith in
          subst (λ (n : ℕ). variables_in (without_entry t.names slot) n ≡ variables_in t.names (n + 1)) e
          (variables_without t.names slot (λ z. absurd (omega (arith, k))) (j - slot) (omega (arith, x.room, x.most)))

      -- the other slot that a name stood in, with as many variables before it
      from : (j : ℕ) → j < t.count - 1 → (i : ℕ) × (i < t.count) × (j ≤ i) × (entry_at (without_entry t.names slot) j ≡ entry_at t.names i) × (variables_in (without_entry t.names slot) j ≡ variables_in t.names i) × (i ≡ slot → ⊥)
      from j o = by (ltb j slot) refl
        where
          by : (b : Bool) → ltb j slot ≡ b → (i : ℕ) × (i < t.count) × (j ≤ i) × (entry_at (without_entry t.names slot) j ≡ entry_at t.names i) × (variables_in (without_entry t.names slot) j ≡ variables_in t.names i) × (i ≡ slot → ⊥)
          by true q =
              let p = ltb-true j slot q in (
                j,
                omega arith,
                le_refl j,
                entry_before t.names slot held j p,
                variables_kept t.names (without_entry t.names slot) j (λ i n. ap (λ (y : Entry). y.kind) (entry_before t.names slot held i (omega arith))),
                λ z. absurd (omega arith),
              )
          by false q =
              let p = ltb-false j slot q in (
                j + 1,
                omega arith,
                omega arith,
                entry_behind t.names slot held j p (omega (arith, x.room, x.most)),
                as_many j p (omega arith),
                λ z. absurd (omega arith),
              )

-- a refusal that is noted stays
pub still_noted : (c : Refusal) (n p : ℕ) → 0 < n → (first_of c (refusal n p)).number ≡ 0 → ⊥
unfolding first_of
still_noted c n p l = by (eqb c.number 0) refl (before c (refusal n p))
  where
    by : (b : Bool) → eqb c.number 0 ≡ b → (d : Bool) → (if b then refusal n p else if d then c else refusal n p).number ≡ 0 → ⊥
    by true q d h = omega arith
    by false q true h = eqb-false c.number 0 q h
    by false q false h = omega arith

-- the same with a refusal noted
pub note_it : {input : Input} {text : List ℕ} {s t : State} → Run input text s t → (k p : ℕ) → 0 < k → Run input text s (noting t k p)
note_it {input} {text} {s} {t} r k p l =
    record {
      on = r.on;
      clear = λ q. absurd (z q);
      sound = record {
        size = r.sound.size;
        within = r.sound.within;
        room = r.sound.room;
        most = r.sound.most;
        heads = r.sound.heads;
        spans = r.sound.spans;
        ahead = r.sound.ahead;
        entries = λ slot m. entered_kept (r.sound.entries slot m) (le_refl t.at) (λ q. absurd (z q)) (λ q l w o. refl);
        numbered = r.sound.numbered;
        rest = r.sound.rest;
      };
      below = r.below;
      more = r.more;
      old = r.old;
      new = r.new;
      grown = r.grown;
      shut = r.shut;
    }
  where
    z : (first_of t.noted (refusal k p)).number ≡ 0 → ⊥
    z = still_noted t.noted k p l

-- ---- names that are found

-- the name in a slot that was found: one of the list, in the name space, and spelled so
pub record Found (source names : List ℕ) (count : ℕ) (fields : Bool) (start n slot : ℕ) : Type 0 where
  pub listed : slot < count
  pub in_it : in_space fields (entry_at names slot) ≡ true
  pub spelled : same (letters source start n) (letters source (entry_at names slot).start (entry_at names slot).len) ≡ true

found_from : (source names : List ℕ) (fields : Bool) (start n : ℕ) (count slot from : ℕ) → find source (in_space fields) (letters source start n) from (entries_from names from count) ≡ some slot → Found source names (from + count) fields start n slot
unfolding find entries_from
found_from source names fields start n zero slot from q = absurd (let z : ◌≡◌ {A = ℕ} 0 1 = cc in omega arith)
found_from source names fields start n (suc count) slot from q = by (in_space fields e && same (letters source start n) (letters source e.start e.len)) refl q (found_from source names fields start n count slot (from + 1))
  where
    e : Entry
    e = entry_at names from

    by : (b : Bool) → (in_space fields e && same (letters source start n) (letters source e.start e.len)) ≡ b
        → (if b then some from else find source (in_space fields) (letters source start n) (from + 1) (entries_from names (from + 1) count)) ≡ some slot
        → (find source (in_space fields) (letters source start n) (from + 1) (entries_from names (from + 1) count) ≡ some slot → Found source names (from + 1 + count) fields start n slot)
        → Found source names (from + suc count) fields start n slot
    by true p q more =
        let f : from ≡ slot = cc in
        let a = and_both _ _ p in
        subst (λ (y : ℕ). Found source names (from + suc count) fields start n y) f (record { listed = omega arith; in_it = a.0; spelled = a.1 })
    by false p q more = let h = more q in record { listed = omega (arith, h.listed); in_it = h.in_it; spelled = h.spelled }

pub found_name : {source names : List ℕ} {count : ℕ} {fields : Bool} {start n slot : ℕ} → find_name source names count fields start n ≡ some slot → Found source names count fields start n slot
unfolding find_name
found_name {source} {names} {count} {fields} {start} {n} {slot} q = let h = found_from source names fields start n count slot 0 q in record { listed = omega (arith, h.listed); in_it = h.in_it; spelled = h.spelled }
