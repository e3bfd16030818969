-- Entries: what the pass over the grid says of the definition of reply 24.
use mathlib.Core.Path.{◌≡◌, refl, sym, ap, ap₂, ◌∙◌}
use mathlib.Core.Bool.{Bool, true, false}
use mathlib.Core.List.{List}
use Prim.Native.Nat.{ℕ, suc, ◌+◌, ◌%◌, ◌≤◌, ◌<◌}
use native.Mathlib.Nat.{mod_self, mod-eq_of_lt, mod-lt, mod-add-mod, zero-mod}
use native.Mathlib.Numerals.{add-one}
use native.Mathlib.Omega.{arith}
use lib.ListN.{length, get_or, drop}
use lib.Seq.{drop-cons, drop-length}
use lib.IntN.{ℤ, pos}
use Rattle.value.specs.Number.{within}
use Rattle.value.specs.Worked.{value, decode_of}
use Rattle.value.specs.declared.Value.{Value}
use Rattle.automaton.specs.Promises.ListedLaws.{length_list_of, get_or_list_of}
use Rattle.program.specs.Syntax.{Range, no_range}
use Rattle.cell_meaning.specs.Evaluation.{in_field}
use Rattle.cell_meaning.specs.Promises.Stands.{range_in, ranges_in, rule_table}
use Rattle.cell_meaning.specs.Links.{Table}
use Rattle.std.specs.Prelude.{Ok, Err}
use Rattle.program.specs.Refusal.{Refusal, refusal}
use Rattle.program.specs.declared.Rule.{Rule}
use Rattle.run_meaning.specs.Admission.{out_of_field}
use Rattle.run_admission.specs.Promises.Admitting.{InFields}
use Rattle.run_admission.proofs.Results.{err_same}

-- ---- the field's number

pub field_first : (which fields : ℕ) → which + 1 ≡ fields → 0 ≡ (which + 1) % fields
field_first which fields e = sym (ap (λ (n : ℕ). n % fields) e ∙ mod_self fields)

pub field_next : (which fields : ℕ) → which < fields → (which + 1 ≡ fields → ⊥) → which + 1 ≡ (which + 1) % fields
field_next which fields l n = sym (mod-eq_of_lt (omega arith))

-- ---- one entry

module _ (t : Table) (base n f : ℕ) (v : Value) where
  pub fits_known : {a b : ℕ} {low high : Value} {r : Bool} → f < n → a ≡ t.word2 (base + f) → low ≡ value (decode_of a) → b ≡ t.word3 (base + f) → high ≡ value (decode_of b)
      → r ≡ within low.n high.n v.n → r ≡ in_field (get_or (ranges_in t base n) f no_range) v.n
  fits_known l ea el eb eh er =
      er ∙ ap₂ (λ (x y : Value). within x.n y.n v.n) (el ∙ ap (λ (i : ℕ). value (decode_of i)) ea) (eh ∙ ap (λ (i : ℕ). value (decode_of i)) eb)
      ∙ sym (ap (λ (x : Range). in_field x v.n) (get_or_list_of (λ k. range_in t (base + k)) n f no_range l))

module _ (fields : List Range) (grid : List ℤ) (e : ℕ) where
  past : e ≡ length grid → out_of_field fields e (drop e grid) ≡ refusal 0 0
  unfolding out_of_field
  past q = ap (out_of_field fields e) (ap (λ (n : ℕ). drop n grid) q ∙ drop-length grid)

  module _ (l : e < length grid) {b : Bool} (eb : b ≡ in_field (get_or fields (e % length fields) no_range) (get_or grid e (pos 0))) where
    out : b ≡ false → out_of_field fields e (drop e grid) ≡ refusal 24 e
    unfolding out_of_field
    out h = rw (drop-cons grid e (pos 0) l, sym eb ∙ h) refl

    on : b ≡ true → out_of_field fields e (drop e grid) ≡ out_of_field fields (suc e) (drop (suc e) grid)
    unfolding out_of_field
    on h = rw (drop-cons grid e (pos 0) l, sym eb ∙ h) refl

-- ---- the pass

-- the ranges of a rule's fields
abbrev pub rule_ranges : List ℕ → Rule → List Range
rule_ranges words rule = ranges_in (rule_table words rule) rule.base rule.fields

-- the entries below e are in the ranges of their fields, and `which` is the field of entry e
pub record Passed (words : List ℕ) (rule : Rule) (grid : List ℤ) (which e : ℕ) : Type 0 where
  pub most : e ≤ length grid
  pub field : which ≡ e % rule.fields
  pub says : out_of_field (rule_ranges words rule) 0 grid ≡ out_of_field (rule_ranges words rule) e (drop e grid)

module _ (words : List ℕ) (rule : Rule) (grid : List ℤ) where
  ranges_length : length (rule_ranges words rule) ≡ rule.fields
  ranges_length = length_list_of (λ k. range_in (rule_table words rule) (rule.base + k)) rule.fields

  pub passed_start : Passed words rule grid 0 0
  passed_start = record { most = omega arith; field = sym (zero-mod rule.fields); says = refl }

  module _ (which e : ℕ) (p : Passed words rule grid which e) where
    pub passed_field : 0 < rule.fields → which < rule.fields
    passed_field h = omega (arith, p.field, mod-lt e {m = rule.fields} h)

    pub passed_end : length grid ≤ e → InFields words rule grid (Ok tt)
    passed_end l = record { refused = λ x q. cc; says = sym (p.says ∙ past (rule_ranges words rule) grid e (omega (arith, p.most))) }

    module _ (l : e < length grid) {b : Bool} (eb : b ≡ in_field (get_or (rule_ranges words rule) which no_range) (get_or grid e (pos 0))) where
      here : b ≡ in_field (get_or (rule_ranges words rule) (e % length (rule_ranges words rule)) no_range) (get_or grid e (pos 0))
      here =
          eb ∙ ap (λ (f : ℕ). in_field (get_or (rule_ranges words rule) f no_range) (get_or grid e (pos 0)))
          (p.field ∙ ap (λ (n : ℕ). e % n) (sym ranges_length))

      pub passed_out : b ≡ false → InFields words rule grid (Err (refusal 24 e))
      passed_out h = record { refused = λ x q. sym (ap (λ (f : Refusal). f.number) (err_same q)); says = sym (p.says ∙ out (rule_ranges words rule) grid e l here h) }

      pub passed_on : {next : ℕ} → b ≡ true → next ≡ (which + 1) % rule.fields → Passed words rule grid next (e + 1)
      passed_on {next} h q =
          record {
            most = omega arith;
            field = q ∙ ap (λ (n : ℕ). (n + 1) % rule.fields) p.field ∙ mod-add-mod e rule.fields 1;
            says = rw (add-one e) (p.says ∙ on (rule_ranges words rule) grid e l here h);
          }
