-- What a variable is known by, in the tree and in the word table: how many variables were declared before it; and the name list that is left of an
-- accepted source.
use Prim.Native.Nat.{ℕ, zero, suc, ◌+◌, ◌-◌, ◌*◌, ◌≤◌, ◌<◌}
use native.Mathlib.Omega.{arith}
use mathlib.Core.Path.{◌≡◌, refl, sym, ap, ◌∙◌, subst}
use mathlib.Core.Bool.{Bool, true, false}
use mathlib.Core.List.{List, [], ◌∷◌}
use lib.Dec.{eqb, ltb}
use lib.ListN.{length, get_or, set, length-set}
use lib.Seq.{get_or-set_other}
use borrow.Author.Tests.{eqb-true, eqb-false, ltb-true, ltb-false}
use Rattle.value.specs.Limits.{name_words}
use Rattle.std.specs.Prelude.{if◌then◌else◌}
use Rattle.value.specs.Worked.{decode_of}
use Rattle.token.specs.Scanning.{scan, scanned_words}
use Rattle.names.specs.declared.Entry.{Entry}
use Rattle.names.specs.Names.{name_kind, entry_at, with_value, variables_in}
use Rattle.program.specs.Table.{word_at}
use Rattle.grammar.specs.Reader.{Input, State, ok}
use Rattle.grammar.specs.Source.{Accepted, settled_value, settled, input_of, parse}
use Rattle.grammar.specs.Promises.Traces.{accepted_by}
use Rattle.read_links.proofs.Theorems.Runs.{Sound, Run, stay, Signable, value_kept}
use Rattle.read_links.proofs.Theorems.Removing.{one_more, variables_kept, variables_more}
use Rattle.read_links.proofs.Theorems.Accepted.{Parsed, parsed}

-- ---- while a source is read

-- each variable's number is how many variables were declared before it, no two variables share one, and each is below n
pub record Numbered (s : State) (n : ℕ) : Type 0 where
  pub number : (slot : ℕ) → slot < s.count → (entry_at s.names slot).kind ≡ name_kind.variable → (entry_at s.names slot).word ≡ variables_in s.names slot
  pub apart : (i j : ℕ) → i < s.count → j < s.count → (entry_at s.names i).kind ≡ name_kind.variable → (entry_at s.names j).kind ≡ name_kind.variable
      → (entry_at s.names i).word ≡ (entry_at s.names j).word → i ≡ j
  pub below : (slot : ℕ) → slot < s.count → (entry_at s.names slot).kind ≡ name_kind.variable → (entry_at s.names slot).word < n

-- the number of a variable is below that of all variables behind it
before : (names : List ℕ) (i j : ℕ) → (entry_at names i).kind ≡ name_kind.variable → i < j → variables_in names i < variables_in names j
before names i j k l =
    let m = j - (i + 1) in
    let e : i + 1 + m ≡ j = omega arith in
    subst (λ (n : ℕ). variables_in names i < variables_in names n) e (omega (arith, one_more names i k, (variables_more names (i + 1) m).0))

-- there are no more variables than names
at_most : (names : List ℕ) (n : ℕ) → variables_in names n ≤ n
unfolding variables_in
at_most names n =
    let e : 0 + n ≡ n = omega arith in
    let none : variables_in names 0 ≡ 0 = refl in
    subst (λ (m : ℕ). variables_in names m ≤ n) e (omega (arith, (variables_more names 0 n).1))

-- so it is in every state from which reading goes on to another, with n the names there
pub numbered : {input : Input} {text : List ℕ} {s t : State} → Sound input text s → Run input text s t → Numbered s t.count
numbered {s = s} {t = t} x r =
    record {
      number = x.numbered;
      apart = λ i j l m p q e. same i j (sym (x.numbered i l p) ∙ e ∙ x.numbered j m q) p q (ltb i j) refl (ltb j i) refl;
      below = λ slot l k. omega (arith, x.numbered slot l k, before s.names slot s.count k l, r.grown, at_most t.names t.count);
    }
  where
    same : (i j : ℕ) → variables_in s.names i ≡ variables_in s.names j → (entry_at s.names i).kind ≡ name_kind.variable → (entry_at s.names j).kind ≡ name_kind.variable → (a : Bool) → ltb i j ≡ a → (b : Bool) → ltb j i ≡ b → i ≡ j
    same i j e p q true a b c = absurd (omega (arith, before s.names i j p (ltb-true i j a)))
    same i j e p q false a true c = absurd (omega (arith, before s.names j i q (ltb-true j i c)))
    same i j e p q false a false c = omega (arith, ltb-false i j a, ltb-false j i c)

-- ---- of an accepted source

-- at its end, with n the slots of its program
pub accepted_numbered : {source : List ℕ} {a : Accepted} (p : Parsed source a) → Numbered p.trace.s₃ a.program.slots
accepted_numbered p = subst (λ (z : Accepted). Numbered p.trace.s₃ z.program.slots) (sym p.is) (numbered p.linked.sound (stay p.linked.sound))

-- the values that names have after acceptance change nothing else
module _ (words names : List ℕ) where
  pub settled_length : (n : ℕ) → length (settled words names n) ≡ length names
  unfolding settled
  settled_length zero = refl
  settled_length (suc n) = length-set (settled words names n) (4 * n + 3) _ ∙ settled_length n

  settled_word : (n j : ℕ) → ((slot : ℕ) → slot < n → j ≡ 4 * slot + 3 → ⊥) → get_or (settled words names n) j 0 ≡ get_or names j 0
  unfolding settled
  settled_word zero j d = refl
  settled_word (suc n) j d = get_or-set_other (settled words names n) (4 * n + 3) j _ 0 (d n (omega arith)) ∙ settled_word n j (λ slot l. d slot (omega arith))

  settled_kind : (n slot : ℕ) → (entry_at (settled words names n) slot).kind ≡ (entry_at names slot).kind
  unfolding entry_at
  settled_kind n slot = settled_word n (4 * slot + 2) (λ i l e. absurd (omega arith))

-- the name list that is left: as many names as the program has slots, each of a kind, none an index, and zeros behind them
pub record Left (names : List ℕ) (n : ℕ) : Type 0 where
  pub size : length names ≡ name_words
  pub few : n ≤ 256
  pub kinds : (slot : ℕ) → slot < n → (0 < (entry_at names slot).kind) × ((entry_at names slot).kind < 7)
  pub no_index : (slot : ℕ) → slot < n → (entry_at names slot).kind ≡ name_kind.index → ⊥
  pub rest : (j : ℕ) → 4 * n ≤ j → j < name_words → get_or names j 0 ≡ 0

pub names_left : {source : List ℕ} {a : Accepted} (p : Parsed source a) → Left a.names a.program.slots
names_left {source} {a} p =
    subst (λ (z : Accepted). Left z.names z.program.slots) (sym p.is)
    (record {
      size = settled_length p.trace.s₃.words p.trace.s₃.names p.trace.s₃.count ∙ x.room;
      few = x.most;
      kinds = λ slot l. let k = settled_kind p.trace.s₃.words p.trace.s₃.names p.trace.s₃.count slot in (rw k (x.entries slot l).some_kind, rw k (x.entries slot l).a_kind);
      no_index = λ slot l k. p.linked.no_index slot l (sym (settled_kind p.trace.s₃.words p.trace.s₃.names p.trace.s₃.count slot) ∙ k);
      rest = λ j l m. settled_word p.trace.s₃.words p.trace.s₃.names p.trace.s₃.count j (λ slot o e. absurd (omega arith)) ∙ x.rest j l m;
    })
  where
    x : Sound (input_of source) (scanned_words (scan source)) p.trace.s₃
    x = p.linked.sound

-- the number that a variable has at the end is how many variables stand before it in the list that is left
pub number_left : {source : List ℕ} {a : Accepted} (p : Parsed source a) (slot : ℕ) → slot < a.program.slots → (entry_at a.names slot).kind ≡ name_kind.variable → (entry_at p.trace.s₃.names slot).word ≡ variables_in a.names slot
number_left {source} {a} p slot =
    subst (λ (z : Accepted). slot < z.program.slots → (entry_at z.names slot).kind ≡ name_kind.variable → (entry_at p.trace.s₃.names slot).word ≡ variables_in z.names slot) (sym p.is)
    (λ l k. p.linked.sound.numbered slot l (sym (kinds slot) ∙ k) ∙ sym (variables_kept p.trace.s₃.names (settled p.trace.s₃.words p.trace.s₃.names p.trace.s₃.count) slot (λ j _. kinds j)))
  where
    kinds : (j : ℕ) → (entry_at (settled p.trace.s₃.words p.trace.s₃.names p.trace.s₃.count) j).kind ≡ (entry_at p.trace.s₃.names j).kind
    kinds = settled_kind p.trace.s₃.words p.trace.s₃.names p.trace.s₃.count

-- ---- the constants in its name list

-- a value written where it stands changes nothing
set_same : (l : List ℕ) (i : ℕ) → set l i (get_or l i 0) ≡ l
set_same [] i = refl
set_same (x ∷ l) zero = refl
set_same (x ∷ l) (suc i) = ap (λ (k : List ℕ). x ∷ k) (set_same l i)

constant_value : (words : List ℕ) (e : Entry) → e.kind ≡ name_kind.constant → settled_value words e ≡ e.word
unfolding settled_value
constant_value words e k = ap (λ (t : ℕ). if eqb t name_kind.array then word_at words e.word 2 else if eqb t name_kind.variable then 0 else e.word) k

-- the values after acceptance leave a simple constant's record
settled_constant : (words names : List ℕ) (n slot : ℕ) → (entry_at names slot).kind ≡ name_kind.constant → entry_at (settled words names n) slot ≡ entry_at names slot
unfolding settled entry_at
settled_constant words names zero slot k = refl
settled_constant words names (suc n) slot k = by (settled_constant words names n slot k) (eqb slot n) refl
  where
    before : List ℕ
    before = settled words names n

    value : ℕ
    value = settled_value words (entry_at before n)

    by : entry_at before slot ≡ entry_at names slot → (t : Bool) → eqb slot n ≡ t → entry_at (with_value before n value) slot ≡ entry_at names slot
    by rest false q = value_kept before n value slot (eqb-false slot n q) ∙ rest
    by rest true q =
        let here = ap (entry_at before) (sym (eqb-true slot n q)) ∙ rest in
        ap (λ (v : ℕ). entry_at (with_value before n v) slot) (constant_value words (entry_at before n) (ap (λ (x : Entry). x.kind) here ∙ k))
        ∙ ap (λ (l : List ℕ). entry_at l slot) (set_same before (4 * n + 3)) ∙ rest

-- of every accepted source, each simple constant has a value from -2147483647 to 2147483647: none is the least value
pub constants_signable : (source : List ℕ) → length source ≤ 65535 → (a : Accepted) → parse source ≡ ok a
    → (slot : ℕ) → slot < a.program.slots → (entry_at a.names slot).kind ≡ name_kind.constant → Signable (decode_of (entry_at a.names slot).word)
constants_signable source short a e = subst Says (sym p.is) all
  where
    p : Parsed source a
    p = parsed source short a e

    Says : Accepted → Type 0
    Says z = (slot : ℕ) → slot < z.program.slots → (entry_at z.names slot).kind ≡ name_kind.constant → Signable (decode_of (entry_at z.names slot).word)

    all : Says (accepted_by p.trace)
    all slot l k =
        let s = p.trace.s₃ in
        let kind = sym (settled_kind s.words s.names s.count slot) ∙ k in
        subst (λ (x : Entry). Signable (decode_of x.word)) (sym (settled_constant s.words s.names s.count slot kind)) ((p.linked.sound.entries slot l).small kind)
