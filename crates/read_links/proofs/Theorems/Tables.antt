-- Later words: a table that has the tokens of the text, and on the tokens read from a position on what reading has left there.
use Prim.Native.Nat.{ℕ, zero, suc, ◌+◌, ◌*◌, ◌%◌, ◌≤◌, ◌<◌}
use native.Mathlib.Nat.{le_refl}
use native.Mathlib.Omega.{arith}
use mathlib.Core.Path.{◌≡◌, refl, sym, ap, ap₂, ◌∙◌, subst}
use mathlib.Core.Bool.{Bool, true, false}
use mathlib.Core.List.{List, ◌∷◌}
use lib.Dec.{ltb}
use lib.IntN.{ℤ}
use lib.ListN.{get_or}
use borrow.Author.Tests.{ltb-true, ltb-false, lt-ltb, le-ltb}
use Rattle.std.specs.Prelude.{if◌then◌else◌}
use Rattle.value.specs.Worked.{decode_of}
use Rattle.names.specs.declared.Entry.{Entry}
use Rattle.names.specs.Names.{name_kind, entry_at}
use Rattle.program.specs.Table.{word_at}
use Rattle.grammar.specs.Reader.{Input, State, token_of}
use Rattle.grammar.specs.Expressions.{values_from, array_values}
use Rattle.cell_meaning.specs.Promises.Stands.{values_in, array_in}
use Rattle.cell_meaning.specs.Links.{word_in, linked, Table, table_of}
use Rattle.read_links.proofs.Theorems.Steps.{advanced, written}
use Rattle.read_links.proofs.Theorems.Runs.{tokens, head_at, span_at, Sound, RunBut, Run, word_other}
use Rattle.read_links.proofs.Theorems.Naming.{kind_at, token_kind, token_start}

-- ---- words of a table

pub word_inside : (wf : List ℕ) (n w i : ℕ) → i < n → word_in wf n w i ≡ word_at wf i w
unfolding word_in
word_inside wf n w i l = rw (lt-ltb i n l)

pub link_to : (n i w : ℕ) → i < w → w ≤ n → linked n i w ≡ w
unfolding linked
link_to n i w l m = simp (lt-ltb i w l, le-ltb n w m)

-- ---- values of array constants

values_agree : (wf ws : List ℕ) (n dims first k : ℕ) → ((j : ℕ) → first ≤ j → j < first + k → word_in wf n 3 j ≡ word_at ws j 3) → values_in (table_of wf n dims) first k ≡ values_from ws first k
unfolding values_in values_from
values_agree wf ws n dims first zero h = refl
values_agree wf ws n dims first (suc k) h = ap₂ (λ (x : ℕ) (y : List ℤ). decode_of x ∷ y) (h first (le_refl first) (omega arith)) (values_agree wf ws n dims (first + 1) k (λ j l m. h j (omega arith) (omega arith)))

values_kept : (ws' ws : List ℕ) (first k : ℕ) → ((j : ℕ) → first ≤ j → j < first + k → word_at ws' j 3 ≡ word_at ws j 3) → values_from ws' first k ≡ values_from ws first k
unfolding values_from
values_kept ws' ws first zero h = refl
values_kept ws' ws first (suc k) h = ap₂ (λ (x : ℕ) (y : List ℤ). decode_of x ∷ y) (h first (le_refl first) (omega arith)) (values_kept ws' ws (first + 1) k (λ j l m. h j (omega arith) (omega arith)))

-- the values of an array constant, by the words at its name and its list
pub array_kept : (ws' ws : List ℕ) (d : ℕ) → word_at ws' d 3 ≡ word_at ws d 3 → word_at ws' d 2 ≡ word_at ws d 2
    → ((j : ℕ) → word_at ws d 3 ≤ j → j < word_at ws d 3 + word_at ws d 2 → word_at ws' j 3 ≡ word_at ws j 3) → array_values ws' d ≡ array_values ws d
unfolding array_values
array_kept ws' ws d p q h = ap₂ (values_from ws') p q ∙ values_kept ws' ws (word_at ws d 3) (word_at ws d 2) h

array_agree : (wf ws : List ℕ) (n dims d : ℕ) → word_in wf n 3 d ≡ word_at ws d 3 → word_in wf n 2 d ≡ word_at ws d 2
    → ((j : ℕ) → word_at ws d 3 ≤ j → j < word_at ws d 3 + word_at ws d 2 → word_in wf n 3 j ≡ word_at ws j 3) → array_in (table_of wf n dims) d ≡ array_values ws d
unfolding array_values
array_agree wf ws n dims d p q h = ap₂ (values_in (table_of wf n dims)) p q ∙ values_agree wf ws n dims (word_at ws d 3) (word_at ws d 2) h

-- ---- later words

-- words that have the text's tokens
pub record Final (text wf : List ℕ) : Type 0 where
  pub heads : (i : ℕ) → head_at wf i ≡ head_at text i
  pub spans : (i : ℕ) → span_at wf i ≡ span_at text i

-- words that have what a state has, on the tokens read from a position on
abbrev pub Later : List ℕ → ℕ → State → Type 0
Later wf a t = (j : ℕ) → 4 * a ≤ j → j < 4 * t.at → get_or wf j 0 ≡ get_or t.words j 0

-- a table that has the values of the array constants that a state knows
abbrev pub Known : Table → State → Type 0
Known table s = (slot : ℕ) → slot < s.count → (entry_at s.names slot).kind ≡ name_kind.array → array_in table (entry_at s.names slot).word ≡ array_values s.words (entry_at s.names slot).word

-- ---- array constants in a later table

module _ {input : Input} {text : List ℕ} (dims : ℕ) {s t : State} {held : ℕ} (x : Sound input text s) (r : RunBut input text s t held) (c : t.noted.number ≡ 0) (wf : List ℕ) where
  -- one that is old, and one that was declared meanwhile
  old_array : (slot : ℕ) → slot < s.count → (entry_at s.names slot).kind ≡ name_kind.array → array_values t.words (entry_at s.names slot).word ≡ array_values s.words (entry_at s.names slot).word
  old_array slot l k =
      let e = x.entries slot l in
      let b = e.before k in
      let m = e.listed (r.clear c) k in
      array_kept t.words s.words (entry_at s.names slot).word (r.below _ (omega arith)) (r.below _ (omega arith)) (λ j p q. r.below (4 * j + 3) (omega arith))

  new_array : Later wf s.at t → (slot : ℕ) → s.count ≤ slot → slot < t.count → (entry_at t.names slot).kind ≡ name_kind.array → array_in (table_of wf (tokens input) dims) (entry_at t.names slot).word ≡ array_values t.words (entry_at t.names slot).word
  new_array h slot l m k =
      let e = r.sound.entries slot m in
      let b = e.before k in
      let o = e.listed c k in
      let n = r.new slot l m k in
      let n₀ = n.0 in
      let n₁ = n.1 in
      let w = r.sound.within in
      let d = (entry_at t.names slot).word in
      array_agree wf t.words (tokens input) dims d
      (word_inside wf (tokens input) 3 d (omega arith) ∙ h (4 * d + 3) (omega arith) (omega arith))
      (word_inside wf (tokens input) 2 d (omega arith) ∙ h (4 * d + 2) (omega arith) (omega arith))
      (λ j p q. word_inside wf (tokens input) 3 j (omega arith) ∙ h (4 * j + 3) (omega arith) (omega arith))

  known_run : Later wf s.at t → Known (table_of wf (tokens input) dims) s → Known (table_of wf (tokens input) dims) t
  known_run h known slot m k = by (ltb slot s.count) refl
    where
      by : (b : Bool) → ltb slot s.count ≡ b → array_in (table_of wf (tokens input) dims) (entry_at t.names slot).word ≡ array_values t.words (entry_at t.names slot).word
      by true q =
          let l = ltb-true slot s.count q in
          let e = r.old slot l in
          let ks = ap (λ (y : Entry). y.kind) (sym e) ∙ k in
          subst (λ (y : ℕ). array_in (table_of wf (tokens input) dims) y ≡ array_values t.words y) (ap (λ (y : Entry). y.word) (sym e)) (known slot l ks ∙ sym (old_array slot l ks))
      by false q = new_array h slot (ltb-false slot s.count q) m k

  -- a write at the first token leaves them
  known_first : (w v : ℕ) → w < 4 → Known (table_of wf (tokens input) dims) t → Known (table_of wf (tokens input) dims) (written t s.at w v)
  known_first w v o known slot m k = known slot m k ∙ sym (array_kept _ t.words d (other (4 * d + 3) (λ q. away (omega arith))) (other (4 * d + 2) (λ q. away (omega arith))) (λ j p q. other (4 * j + 3) (λ z. apart j p q (omega arith))))
    where
      d : ℕ
      d = (entry_at t.names slot).word

      other : (j : ℕ) → (j ≡ 4 * s.at + w → ⊥) → get_or (written t s.at w v).words j 0 ≡ get_or t.words j 0
      other j q = word_other t.words s.at w v j q

      -- its name and its list lie before the first token, or behind it
      sides : (b : Bool) → ltb slot s.count ≡ b → (d ≡ s.at → ⊥) × ((j : ℕ) → word_at t.words d 3 ≤ j → j < word_at t.words d 3 + word_at t.words d 2 → j ≡ s.at → ⊥)
      sides true q =
          let l = ltb-true slot s.count q in
          let e = r.old slot l in
          let ks : (entry_at s.names slot).kind ≡ name_kind.array = ap (λ (y : Entry). y.kind) (sym e) ∙ k in
          let dw : d ≡ (entry_at s.names slot).word = ap (λ (y : Entry). y.word) e in
          let b = (x.entries slot l).before ks in
          let i = (x.entries slot l).listed (r.clear c) ks in
          let p₃ : word_at t.words d 3 ≡ word_at s.words (entry_at s.names slot).word 3 = ap (λ (y : ℕ). word_at t.words y 3) dw ∙ r.below _ (omega arith) in
          let p₂ : word_at t.words d 2 ≡ word_at s.words (entry_at s.names slot).word 2 = ap (λ (y : ℕ). word_at t.words y 2) dw ∙ r.below _ (omega arith) in
          (λ z. omega arith, λ j p y z. omega arith)
      sides false q = let n = r.new slot (ltb-false slot s.count q) m k in let n₀ = n.0 in let n₁ = n.1 in (λ z. omega arith, λ j p y z. omega arith)

      away : d ≡ s.at → ⊥
      away = (sides (ltb slot s.count) refl).0

      apart : (j : ℕ) → word_at t.words d 3 ≤ j → j < word_at t.words d 3 + word_at t.words d 2 → j ≡ s.at → ⊥
      apart = (sides (ltb slot s.count) refl).1

-- the words that a reading leaves have the array constants that are known at its beginning
pub known_left : {input : Input} {text : List ℕ} (dims : ℕ) {s t : State} → Sound input text s → Run input text s t → t.noted.number ≡ 0 → Known (table_of t.words (tokens input) dims) s
known_left {input} {text} dims {s} {t} x r c slot l k =
    let e = x.entries slot l in
    let b = e.before k in
    let m = e.listed (r.clear c) k in
    let w = x.within in
    let d = (entry_at s.names slot).word in
    array_agree t.words s.words (tokens input) dims d
    (word_inside t.words (tokens input) 3 d (omega arith) ∙ r.below (4 * d + 3) (omega arith))
    (word_inside t.words (tokens input) 2 d (omega arith) ∙ r.below (4 * d + 2) (omega arith))
    (λ j p q. word_inside t.words (tokens input) 3 j (omega arith) ∙ r.below (4 * j + 3) (omega arith))

-- ---- views

-- words that are later than a reading from one state to another, at whose end no refusal is noted
pub record View (input : Input) (text : List ℕ) (dims : ℕ) (wf : List ℕ) (s t : State) : Type 0 where
  pub final : Final text wf
  pub later : Later wf s.at t
  pub known : Known (table_of wf (tokens input) dims) s
  pub clear : t.noted.number ≡ 0

-- what holds of every later table
abbrev pub Claim : Input → List ℕ → ℕ → State → State → (Table → Type 0) → Type 0
Claim input text dims s t P = (wf : List ℕ) → View input text dims wf s t → P (table_of wf (tokens input) dims)

module _ {input : Input} {text : List ℕ} {dims : ℕ} {wf : List ℕ} where
  -- of a reading in two parts, the first part and the second
  pub first_part : {s t u : State} → View input text dims wf s u → Run input text t u → View input text dims wf s t
  first_part {s} {t} {u} v r = record { final = v.final; later = λ j l m. v.later j l (omega (arith, r.on)) ∙ r.below j m; known = v.known; clear = r.clear v.clear }

  pub second_part : {s t u : State} {held : ℕ} → Sound input text s → View input text dims wf s u → RunBut input text s t held → Run input text t u → View input text dims wf t u
  second_part {s} {t} {u} x v q r =
      record {
        final = v.final;
        later = λ j l m. v.later j (omega (arith, q.on)) m;
        known = known_run dims x q (r.clear v.clear) wf (first_part v r).later v.known;
        clear = v.clear;
      }

  -- without the first token
  pub inner_part : {s t : State} → View input text dims wf s t → View input text dims wf (advanced s) t
  inner_part v = record { final = v.final; later = λ j l m. v.later j (omega arith) m; known = v.known; clear = v.clear }

  -- without a write before it
  pub unwritten : {s t : State} (i w v : ℕ) → View input text dims wf s (written t i w v) → w < 4 → i < s.at → View input text dims wf s t
  unwritten {s} {t} i w v h o l = record { final = h.final; later = λ j m p. h.later j m p ∙ word_other t.words i w v j (λ q. absurd (omega arith)); known = h.known; clear = h.clear }

  -- behind a write at the first token
  pub rewritten : {s t u : State} → Sound input text s → Run input text s t → (w v : ℕ) → w < 4 → t.noted.number ≡ 0 → View input text dims wf t u → View input text dims wf (written t s.at w v) u
  rewritten x r w v o c h = record { final = h.final; later = h.later; known = known_first dims x r c wf w v o h.known; clear = h.clear }

  -- from another state on, whose array constants are known
  pub view_from : {s t : State} → View input text dims wf s t → (u : State) → s.at ≤ u.at → Known (table_of wf (tokens input) dims) u → View input text dims wf u t
  view_from v u l known = record { final = v.final; later = λ j m o. v.later j (omega arith) o; known = known; clear = v.clear }

  module _ {s t : State} (v : View input text dims wf s t) where
    -- a word of a token that is read
    pub view_word : t.at ≤ tokens input → (i w : ℕ) → s.at ≤ i → i < t.at → w < 4 → word_in wf (tokens input) w i ≡ word_at t.words i w
    view_word o i w l m p = word_inside wf (tokens input) w i (omega arith) ∙ v.later (4 * i + w) (omega arith) (omega arith)

    pub view_kind : {u : State} → Sound input text u → (i : ℕ) → word_in wf (tokens input) 0 i ≡ (token_of input u i).kind
    unfolding word_in kind_at
    view_kind x i = ap (λ (y : ℕ). if ltb i (tokens input) then y else 0) (ap (λ (y : ℕ). get_or wf y 0) (omega arith) ∙ v.final.heads i) ∙ sym (token_kind x i)

    pub view_place : {u : State} → Sound input text u → (i : ℕ) → i < tokens input → word_in wf (tokens input) 1 i % 65536 ≡ (token_of input u i).start
    view_place x i l = ap (λ (y : ℕ). y % 65536) (word_inside wf (tokens input) 1 i l ∙ v.final.spans i) ∙ sym (token_start x i l)
