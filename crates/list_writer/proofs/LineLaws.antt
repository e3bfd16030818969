-- The lines of the cells that differ, and the whole text.
use Prim.Native.Nat.{ℕ, zero, suc, ◌+◌, ◌-◌, ◌*◌, ◌≤◌, ◌<◌}
use native.Mathlib.Nat.{zero-add}
use native.Mathlib.Numerals.{add-one}
use native.Mathlib.Omega.{arith}
use mathlib.Core.Path.{◌≡◌, refl, sym, ap, ap₂, ◌∙◌, subst}
use mathlib.Core.Bool.{Bool, true, false}
use mathlib.Core.List.{List, [], ◌∷◌, ◌++◌, map, append_assoc, append-nil}
use mathlib.Core.Option.{Option}
use lib.ListN.{length, get_or, take, drop, length-append, length-drop}
use lib.Seq.{length-take-le, ext_get_or, get_or-take, get_or-drop}
use lib.IntN.{ℤ, pos}
use Rattle.automaton.specs.Listed.{list_of}
use Rattle.automaton.specs.Promises.ListedLaws.{length_list_of, get_or_list_of}
use Rattle.automaton.specs.Shape.{product, coordinates}
use Rattle.automaton.proofs.ShapeLaws.{inside_length, coordinates_inside}
use Rattle.automaton.specs.Grid.{cell_of, differ}
use Rattle.automaton.proofs.Theorems.GridLaws.{cell_room}
use Rattle.tool_reply_line.proofs.Lines.{digits_length}
use Rattle.list_meaning.specs.Writing.{print_number, print_field, listed, cell_line, shown, cells_text, written_text}
use Rattle.list_meaning.specs.Promises.Showing.{length_shown}
use Rattle.list_writer.specs.Promises.Printing.{Puts}
use Rattle.list_writer.specs.Promises.Lines.{Grids, changed_line}
use Rattle.list_writer.proofs.PrintingLaws.{puts_nothing, and_then, field_length, listed_length}

-- ---- a cell's line

pub numbers_length : (is : List ℕ) → length is ≤ 3 → length (listed (map print_number is)) ≤ 36
numbers_length is l = omega (arith, listed_length 10 print_number (digits_length 9) is)

pub values_length : (flag : Option ℕ) (vs : List ℤ) → length vs ≤ 64 → length (listed (map print_field (shown flag vs))) ≤ 832
values_length flag vs l = omega (arith, listed_length 11 print_field field_length (shown flag vs), length_shown flag vs)

-- its parts, one behind another
line_text : (is : List ℕ) (vs : List (Option ℤ))
    → (91 ∷ []) ++ listed (map print_number is) ++ (93 ∷ 32 ∷ 61 ∷ 32 ∷ []) ++ listed (map print_field vs) ++ (10 ∷ []) ≡ cell_line is vs ++ 10 ∷ []
unfolding cell_line
line_text is vs = ap (λ (t : List ℕ). 91 ∷ t ++ 10 ∷ []) (append_assoc (listed (map print_number is)) (93 ∷ 32 ∷ 61 ∷ 32 ∷ []) (listed (map print_field vs)))

pub line_put : {old a b c d new : List ℕ} {at i j k l r : ℕ} (is : List ℕ) (vs : List (Option ℤ)) → Puts old at (91 ∷ []) a i → Puts a i (listed (map print_number is)) b j
    → Puts b j (93 ∷ 32 ∷ 61 ∷ 32 ∷ []) c k → Puts c k (listed (map print_field vs)) d l → Puts d l (10 ∷ []) new r → Puts old at (cell_line is vs ++ 10 ∷ []) new r
line_put {old} {new = new} {at = at} {r = r} is vs p q s t u = subst (λ (y : List ℕ). Puts old at y new r) (line_text is vs) (and_then (and_then (and_then (and_then p q) s) t) u)

line_length : (is : List ℕ) (flag : Option ℕ) (vs : List ℤ) → length is ≤ 3 → length vs ≤ 64 → length (cell_line is (shown flag vs) ++ 10 ∷ []) ≤ 1000
unfolding cell_line
line_length is flag vs l m =
    let a = listed (map print_number is) in
    let b : List ℕ = 93 ∷ 32 ∷ 61 ∷ 32 ∷ listed (map print_field (shown flag vs)) in
    omega (arith, length-append (a ++ b) (10 ∷ []), length-append a b, numbers_length is l, values_length flag vs m)

-- ---- a cell that differs

cell_part : (fields : ℕ) (g : List ℤ) (c : ℕ) → c * fields + fields ≤ length g → take (c * fields + fields - c * fields) (drop (c * fields) g) ≡ cell_of fields g c
unfolding cell_of
cell_part fields g c l =
    ap (λ (n : ℕ). take n (drop (c * fields) g)) back
    ∙ ext_get_or (pos 0) (take fields (drop (c * fields) g)) _ (size ∙ sym (length_list_of _ fields)) (λ k h. at k (subst (λ (n : ℕ). k < n) size h))
  where
    back : c * fields + fields - c * fields ≡ fields
    back = omega arith

    size : length (take fields (drop (c * fields) g)) ≡ fields
    size = length-take-le fields (drop (c * fields) g) (omega (arith, length-drop (c * fields) g))

    at : (k : ℕ) → k < fields → get_or (take fields (drop (c * fields) g)) k (pos 0) ≡ get_or (list_of (λ j. get_or g (c * fields + j) (pos 0)) fields) k (pos 0)
    at k h = get_or-take fields (drop (c * fields) g) k (pos 0) h ∙ get_or-drop (c * fields) g k (pos 0) ∙ sym (get_or_list_of _ fields k (pos 0) h)

module _ {sizes : List ℕ} {fields : ℕ} {earlier later : List ℤ} (w : Grids sizes fields earlier later) {c : ℕ} (l : c < product sizes) where
  dims_few : length (coordinates sizes c) ≤ 3
  dims_few = omega (arith, w.dims, inside_length sizes (coordinates sizes c) (coordinates_inside sizes c w.positive l))

  fields_few : length (cell_of fields later c) ≤ 64
  unfolding cell_of
  fields_few = omega (arith, w.fields_few, length_list_of (λ (k : ℕ). get_or later (c * fields + k) (pos 0)) fields)

  pub changed_length : (flag : Option ℕ) → length (changed_line sizes fields flag earlier later c) ≤ 1000
  unfolding changed_line
  changed_length flag = by (differ (cell_of fields earlier c) (cell_of fields later c))
    where
      by : (t : Bool) → length {A = ℕ} (elim t [ true ↦ cell_line (coordinates sizes c) (shown flag (cell_of fields later c)) ++ 10 ∷ [] | false ↦ [] ]) ≤ 1000
      by true = line_length (coordinates sizes c) flag (cell_of fields later c) dims_few fields_few
      by false = omega arith

  module _ (flag : Option ℕ) {t : Bool} (e : t ≡ differ (cell_of fields earlier c) (cell_of fields later c)) where
    pub same_put : t ≡ false → (old : List ℕ) (at : ℕ) → Puts old at (changed_line sizes fields flag earlier later c) old at
    unfolding changed_line
    same_put n old at = rw (sym e ∙ n, changed_line) (puts_nothing old at)

    pub changed_put : t ≡ true → {old new : List ℕ} {at r : ℕ} {point : List ℕ} → (c < product sizes → point ≡ coordinates sizes c)
        → Puts old at (cell_line point (shown flag (take (c * fields + fields - c * fields) (drop (c * fields) later))) ++ 10 ∷ []) new r → Puts old at (changed_line sizes fields flag earlier later c) new r
    unfolding changed_line
    changed_put n {old} {new} {at} {r} h x =
        rw (sym e ∙ n, changed_line)
        (subst (λ (y : List ℕ). Puts old at y new r)
        (ap₂ (λ (is : List ℕ) (vs : List ℤ). cell_line is (shown flag vs) ++ 10 ∷ []) (h l) (cell_part fields later c (cell_room c (product sizes) fields (length later) l w.later_entries))) x)

-- ---- all cells

-- memory for the coordinates
pub point_fits : {sizes : List ℕ} {fields : ℕ} {earlier later : List ℤ} → Grids sizes fields earlier later → (zs : List ℕ) → length zs ≡ 3 → length (take (length sizes) zs) ≡ length sizes
point_fits {sizes} w zs e = length-take-le (length sizes) zs (omega (arith, w.dims))

module _ (sizes : List ℕ) (fields : ℕ) (flag : Option ℕ) (earlier later : List ℤ) where
  one_cell : (n c : ℕ) → cells_text sizes fields flag earlier later (suc n) c ≡ changed_line sizes fields flag earlier later c ++ cells_text sizes fields flag earlier later n (suc c)
  unfolding cells_text changed_line
  one_cell n c = by (differ (cell_of fields earlier c) (cell_of fields later c))
    where
      rest : List ℕ
      rest = cells_text sizes fields flag earlier later n (suc c)

      line : List ℕ
      line = cell_line (coordinates sizes c) (shown flag (cell_of fields later c))

      by : (t : Bool) → elim t [ true ↦ line ++ 10 ∷ rest | false ↦ rest ] ≡ elim t [ true ↦ line ++ 10 ∷ [] | false ↦ [] ] ++ rest
      by true = sym (append_assoc line (10 ∷ []) rest)
      by false = refl

  no_cell : (c : ℕ) → cells_text sizes fields flag earlier later 0 c ≡ []
  unfolding cells_text
  no_cell c = refl

  -- one cell more, at the end
  last_cell : (n c : ℕ) → cells_text sizes fields flag earlier later (suc n) c ≡ cells_text sizes fields flag earlier later n c ++ changed_line sizes fields flag earlier later (c + n)
  last_cell zero c =
      one_cell 0 c ∙ ap (λ (t : List ℕ). changed_line sizes fields flag earlier later c ++ t) (no_cell (suc c)) ∙ append-nil (changed_line sizes fields flag earlier later c)
      ∙ ap (changed_line sizes fields flag earlier later) (let e : c ≡ c + 0 = omega arith in e) ∙ ap (λ (t : List ℕ). t ++ changed_line sizes fields flag earlier later (c + 0)) (sym (no_cell c))
  last_cell (suc n) c =
      one_cell (suc n) c ∙ ap (λ (t : List ℕ). changed_line sizes fields flag earlier later c ++ t) (last_cell n (suc c))
      ∙ sym (append_assoc (changed_line sizes fields flag earlier later c) (cells_text sizes fields flag earlier later n (suc c)) (changed_line sizes fields flag earlier later (suc c + n)))
      ∙ ap₂ (λ (t : List ℕ) (k : ℕ). t ++ changed_line sizes fields flag earlier later k) (sym (one_cell n c)) (let e : suc c + n ≡ c + suc n = omega arith in e)

  pub cells_start : (old : List ℕ) (at : ℕ) → Puts old at (cells_text sizes fields flag earlier later 0 0) old at
  cells_start old at = rw (no_cell 0) (puts_nothing old at)

  pub cells_again : {old mid new : List ℕ} {at here r : ℕ} (c : ℕ) → Puts old at (cells_text sizes fields flag earlier later c 0) mid here → Puts mid here (changed_line sizes fields flag earlier later c) new r
      → Puts old at (cells_text sizes fields flag earlier later (c + 1) 0) new r
  cells_again {old} {mid} {new} {at} {here} {r} c x y =
      subst (λ (t : List ℕ). Puts old at t new r)
      (ap (λ (k : ℕ). cells_text sizes fields flag earlier later c 0 ++ changed_line sizes fields flag earlier later k) (sym (zero-add c)) ∙ sym (last_cell c 0) ∙ ap (λ (n : ℕ). cells_text sizes fields flag earlier later n 0) (sym (add-one c)))
      (and_then x y)

  -- ---- the text

  pub text_put : {old a b new : List ℕ} {at i j r : ℕ} (time cells : ℕ) → cells ≡ product sizes → Puts old at (print_number time) a i → Puts a i (10 ∷ []) b j → Puts b j (cells_text sizes fields flag earlier later cells 0) new r
      → Puts old at (written_text sizes fields flag earlier later time) new r
  unfolding written_text
  text_put {old} {new = new} {at = at} {r = r} time cells e x y z =
      subst (λ (t : List ℕ). Puts old at t new r)
      (append_assoc (print_number time) (10 ∷ []) (cells_text sizes fields flag earlier later cells 0) ∙ ap (λ (n : ℕ). print_number time ++ 10 ∷ cells_text sizes fields flag earlier later n 0) e)
      (and_then (and_then x y) z)
