-- The flag as code tells it: by the number of its field, or by the number of fields where there is none. Taken as the number of a field it says the same.
use Prim.Native.Nat.{ℕ, zero, suc, ◌+◌, ◌*◌, ◌≤◌}
use native.Mathlib.Nat.{le_refl}
use native.Mathlib.Omega.{arith}
use mathlib.Core.Path.{◌≡◌, refl, ap, ap₂}
use mathlib.Core.Bool.{Bool, true, false, not}
use mathlib.Core.List.{List, [], ◌∷◌, ◌++◌, map}
use mathlib.Core.Option.{Option, some, none}
use lib.ListN.{length, get_or, get_or-eq_default}
use lib.Dec.{eqb, ltb}
use lib.IntN.{ℤ, pos}
use borrow.Author.Tests.{ltb-false}
use Rattle.std.specs.Prelude.{if◌then◌else◌}
use Rattle.automaton.specs.Promises.ListedLaws.{length_list_of}
use Rattle.automaton.specs.Shape.{product, coordinates}
use Rattle.automaton.specs.Grid.{cell_of, differ}
use Rattle.move_meaning.specs.Promises.Flags.{flag_told}
use Rattle.list_meaning.specs.Lines.{Said, bad, time, cell, said}
use Rattle.list_meaning.specs.ListChecking.{Limits, inside, all_fit, is_zero, cell_line_number, time_number, line_number, time_behind, Verdict, verdict, check_lines, check_list}
use Rattle.list_meaning.specs.Writing.{print_number, cell_line, shown, cells_text, written_text}

-- ---- the check

-- limits with another flag
abbrev pub with_flag : Option ℕ → Limits → Limits
with_flag flag q = record { sizes = q.sizes; fields = q.fields; flag = flag; first = q.first; last = q.last }

-- a field behind the last one is no flag: 52 goes first
module _ (q : Limits) (f : ℕ) (past : length q.fields ≤ f) where
  cell_unflagged : (is : List ℕ) (vs : List (Option ℤ)) → cell_line_number (with_flag (some f) q) is vs ≡ cell_line_number (with_flag none q) is vs
  unfolding cell_line_number
  cell_unflagged is vs =
      by (eqb (length is) (length q.sizes)) (inside q.sizes is) (ltb (length q.fields) (length vs)) (all_fit q.fields vs) (is_zero (get_or vs f none)) behind
    where
      behind : ltb (length q.fields) (length vs) ≡ false → is_zero (get_or vs f none) ≡ false
      behind e = ap is_zero (get_or-eq_default vs none {n = f} (let l = ltb-false (length q.fields) (length vs) e in omega arith))

      by : (a b c d e : Bool) → (c ≡ false → e ≡ false)
          → ◌≡◌ {A = ℕ} (if not a then 50 else if not b then 51 else if c then 52 else if not d then 53 else if e then 58 else 0)
          (if not a then 50 else if not b then 51 else if c then 52 else if not d then 53 else if false then 58 else 0)
      by a b true d e h = refl
      by a b false d e h = ap (λ (x : Bool). if not a then 50 else if not b then 51 else if not d then 53 else if x then 58 else 0) (h refl)

  line_unflagged : (before : Option ℕ) (s : Said) → line_number (with_flag (some f) q) before s ≡ line_number (with_flag none q) before s
  unfolding time_number
  line_unflagged before bad = refl
  line_unflagged before (time t) = refl
  line_unflagged none (cell is vs) = refl
  line_unflagged (some b) (cell is vs) = cell_unflagged is vs

  lines_unflagged : (before : Option ℕ) (n : ℕ) (ss : List Said) → check_lines (with_flag (some f) q) before n ss ≡ check_lines (with_flag none q) before n ss
  unfolding check_lines
  lines_unflagged before n [] = refl
  lines_unflagged before n (s ∷ ss) =
      ap₂ (λ (m : ℕ) (v : Verdict). if eqb m 0 then v else verdict m n) (line_unflagged before s) (lines_unflagged (time_behind before s) (suc n) ss)

-- the check of a list, by the number that tells the flag
pub told_check : (flag : Option ℕ) (q : Limits) (text : List ℕ) → check_list (with_flag (some (flag_told (length q.fields) flag)) q) text ≡ check_list (with_flag flag q) text
unfolding check_list
told_check none q text = lines_unflagged q (length q.fields) (le_refl (length q.fields)) none 1 (said text)
told_check (some f) q text = refl

-- ---- the writer

shown_past : (f : ℕ) (zs : List ℤ) → length zs ≤ f → shown (some f) zs ≡ map some zs
shown_past f [] l = refl
shown_past zero (z ∷ zs) l = absurd (omega arith)
shown_past (suc f) (z ∷ zs) l = ap (λ (vs : List (Option ℤ)). some z ∷ vs) (shown_past f zs (omega arith))

-- a cell's values as they are written, by the number that tells the flag
pub told_shown : (flag : Option ℕ) (fields : ℕ) (g : List ℤ) (c : ℕ) → shown (some (flag_told fields flag)) (cell_of fields g c) ≡ shown flag (cell_of fields g c)
unfolding cell_of
told_shown none fields g c = shown_past fields (cell_of fields g c) (omega (arith, length_list_of (λ k. get_or g (c * fields + k) (pos 0)) fields))
told_shown (some f) fields g c = refl

module _ (flag : Option ℕ) (sizes : List ℕ) (fields : ℕ) (earlier later : List ℤ) where
  told_cells : (n c : ℕ) → cells_text sizes fields (some (flag_told fields flag)) earlier later n c ≡ cells_text sizes fields flag earlier later n c
  unfolding cells_text
  told_cells zero c = refl
  told_cells (suc n) c =
      ap₂
      (λ (vs : List (Option ℤ)) (rest : List ℕ).
      elim (differ (cell_of fields earlier c) (cell_of fields later c)) [ true ↦ cell_line (coordinates sizes c) vs ++ 10 ∷ rest | false ↦ rest ])
      (told_shown flag fields later c) (told_cells n (suc c))

  -- the text, by the number that tells the flag
  pub told_text : (t : ℕ) → written_text sizes fields (some (flag_told fields flag)) earlier later t ≡ written_text sizes fields flag earlier later t
  unfolding written_text
  told_text t = ap (λ (xs : List ℕ). print_number t ++ 10 ∷ xs) (told_cells (product sizes) 0)
