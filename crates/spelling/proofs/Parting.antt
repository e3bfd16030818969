-- One law for each way through the code.
use mathlib.Core.Path.{◌≡◌, refl, sym, ap, subst, ◌∙◌}
use mathlib.Core.Bool.{Bool, true, false, ◌&&◌}
use mathlib.Core.List.{List, [], ◌∷◌}
use Prim.Native.Nat.{ℕ, suc, ◌+◌, ◌-◌, ◌≤◌, ◌<◌}
use native.Mathlib.Omega.{arith}
use lib.Dec.{eqb}
use lib.ListN.{length, take, drop}
use lib.Pointwise.{pointwise}
use borrow.Author.Tests.{eq-eqb, ne_eqb, le-leb, lt-leb, lt-ltb, le-ltb}
use Rattle.std.specs.Prelude.{if◌then◌else◌, Option, Some, None}
use Rattle.std.proofs.lemmas.Bool.{true≢false, false≢true, and_parts}
use Rattle.std.proofs.lemmas.Option.{none-some, same_Some}
use Rattle.token.specs.Bytes.{same}
use Rattle.token.specs.Lexeme.{built_in_names}
use Rattle.token.specs.declared.Lexed.{Lexed}
use Rattle.token.specs.Promises.Promises as token
use Rattle.spelling.specs.declared.Part as code
use Rattle.spelling.specs.declared.Part.TheVariants.{Listed, Source}
use Rattle.spelling.specs.Spelling.{Part, names_token, part, token_part, part_at, part_entries}
use Rattle.spelling.specs.Promises.Parts.{taken, part_of, spelling_of, IsPart}

-- ---- the part of a token

-- a part that is not empty, and lies within the list or within `size` bytes of the source
pub record Fits (size : ℕ) (p : Part) : Type 0 where
  pub some : 1 ≤ p.len
  pub in_list : p.listed ≡ true → p.start + p.len ≤ 16
  pub in_source : p.listed ≡ false → p.start + p.len ≤ size

token_fits : (k len place size : ℕ) → 1 ≤ len → place + len ≤ size → Fits size (token_part k len place)
token_fits k len place size l h = by (eqb k 3) (eqb k 4) (eqb k 18 && eqb len 6)
  where
    by : (a b c : Bool) → Fits size (if a then part true 0 4 else if b then part true 5 4 else if c then part true 10 6 else part false place len)
    by true b c = record { some = omega arith; in_list = λ e. omega arith; in_source = λ e. absurd (true≢false e) }
    by false true c = record { some = omega arith; in_list = λ e. omega arith; in_source = λ e. absurd (true≢false e) }
    by false false true = record { some = omega arith; in_list = λ e. omega arith; in_source = λ e. absurd (true≢false e) }
    by false false false = record { some = l; in_list = λ e. absurd (false≢true e); in_source = λ e. h }

-- ---- where a spelling stands

module _ (source : List ℕ) (number place : ℕ) where
  none : part false 0 0 ≡ part_at source number place → IsPart source number place None
  none e = record { is = e; in_list = λ start len z. absurd (none-some _ z); in_source = λ start len z. absurd (none-some _ z) }

  one : (q : code.Part) → length source ≤ 65535 → Fits (length source) (part_of (Some q)) → part_of (Some q) ≡ part_at source number place → IsPart source number place (Some q)
  one q l f e =
      record {
        is = e;
        in_list = λ start len z. let g = subst (λ (x : code.Part). Fits (length source) (part_of (Some x))) (same_Some _ _ z) f in (g.some, g.in_list refl);
        in_source = λ start len z. let g = subst (λ (x : code.Part). Fits (length source) (part_of (Some x))) (same_Some _ _ z) f in let h = g.in_source refl in (g.some, h, omega (arith, h, l));
      }

  pub at_no_token : names_token number ≡ false → IsPart source number place None
  unfolding part_at
  at_no_token e = none (simp e)

  module _ (e : names_token number ≡ true) where
    pub at_end : length source ≤ place → IsPart source number place None
    unfolding part_at
    at_end h = none (simp (e, le-leb (length source) place h))

    module _ (h : place < length source) where
      pub at_long : 65535 < length source → IsPart source number place None
      unfolding part_at
      at_long l = none (simp (e, lt-leb (length source) place h, lt-ltb 65535 (length source) l))

      module _ (l : length source ≤ 65535) where
        pub at_byte : number ≡ 3 → IsPart source number place (Some (Source place 1))
        unfolding part_at
        at_byte q =
            one _ l (record { some = omega arith; in_list = λ z. absurd (false≢true z); in_source = λ z. omega arith })
            (simp (e, lt-leb (length source) place h, le-ltb 65535 (length source) l, eq-eqb number 3 q))

        pub at_token : (number ≡ 3 → ⊥) → {r : Lexed} {q : code.Part} → token.ReadsToken source place r → part_of (Some q) ≡ token_part r.token.kind r.token.len place → IsPart source number place (Some q)
        unfolding part_at
        at_token d {r} {q} x y =
            one q l (rw y (token_fits r.token.kind r.token.len place (length source) (omega (arith, x.behind, x.onward)) (omega (arith, x.behind, x.within))))
            (y ∙ simp (e, lt-leb (length source) place h, le-ltb 65535 (length source) l, ne_eqb number 3 d) (ap (λ (z : Lexed). token_part z.token.kind z.token.len place) x.is))

-- ---- the built-in list

same_is : (a b : List ℕ) → pointwise eqb a b ≡ same a b
unfolding same
same_is [] [] = refl
same_is [] (y ∷ b) = refl
same_is (x ∷ a) [] = refl
same_is (x ∷ a) (y ∷ b) = ap (λ (t : Bool). eqb x y && t) (same_is a b)

pub compared : (list : List ℕ) {x : List ℕ} {r : Bool} → r ≡ pointwise eqb list x → x ≡ built_in_names → r ≡ same list built_in_names
compared list e q = e ∙ rw q (same_is list built_in_names)

-- a list that passes the test has sixteen bytes
same_length : (a b : List ℕ) → same a b ≡ true → length a ≡ length b
unfolding same
same_length [] [] e = refl
same_length [] (y ∷ b) e = absurd (false≢true e)
same_length (x ∷ a) [] e = absurd (false≢true e)
same_length (x ∷ a) (y ∷ b) e = ap suc (same_length a b (and_parts (eqb x y) (same a b) e).1)

-- ---- the spelling

-- a part's end less its start is its length
span : (start len : ℕ) → start + len - start ≡ len
span start len = omega arith

module _ (source list : List ℕ) (number place : ℕ) where
  pub no_list : same list built_in_names ≡ false → [] ≡ spelling_of source list number place
  unfolding spelling_of
  no_list e = simp e

  module _ (e : same list built_in_names ≡ true) {p : Option code.Part} (x : IsPart source number place p) where
    pub sixteen : length list ≡ 16
    sixteen = same_length list built_in_names e

    spelt : taken source list (part_of p) ≡ spelling_of source list number place
    unfolding spelling_of
    spelt = ap (taken source list) x.is ∙ simp e

    pub no_part : p ≡ None → [] ≡ spelling_of source list number place
    no_part q = ap (λ (z : Option code.Part). taken source list (part_of z)) (sym q) ∙ spelt

    pub listed_part : {start len : ℕ} → p ≡ Some (Listed start len) → take (start + len - start) (drop start list) ≡ spelling_of source list number place
    listed_part {start} {len} q = rw (span start len) (ap (λ (z : Option code.Part). taken source list (part_of z)) (sym q) ∙ spelt)

    pub source_part : {start len : ℕ} → p ≡ Some (Source start len) → take (start + len - start) (drop start source) ≡ spelling_of source list number place
    source_part {start} {len} q = rw (span start len) (ap (λ (z : Option code.Part). taken source list (part_of z)) (sym q) ∙ spelt)

-- ---- the spelling in numbers

module _ (source : List ℕ) (number place : ℕ) {p : Option code.Part} (x : IsPart source number place p) where
  told_by : part_entries (part_of p) ≡ part_entries (part_at source number place)
  told_by = ap part_entries x.is

  pub told_none : p ≡ None → 0 ∷ 0 ∷ 0 ∷ [] ≡ part_entries (part_at source number place)
  told_none q = ap (λ (z : Option code.Part). part_entries (part_of z)) (sym q) ∙ told_by

  pub told_listed : {start len : ℕ} → p ≡ Some (Listed start len) → 2 ∷ start ∷ len ∷ [] ≡ part_entries (part_at source number place)
  told_listed {start} {len} q = let h = (x.in_list start len q).0 in sym (rw (ne_eqb len 0 (λ z. omega arith))) ∙ ap (λ (z : Option code.Part). part_entries (part_of z)) (sym q) ∙ told_by

  pub told_source : {start len : ℕ} → p ≡ Some (Source start len) → 1 ∷ start ∷ len ∷ [] ≡ part_entries (part_at source number place)
  told_source {start} {len} q = let h = (x.in_source start len q).0 in sym (rw (ne_eqb len 0 (λ z. omega arith))) ∙ ap (λ (z : Option code.Part). part_entries (part_of z)) (sym q) ∙ told_by
