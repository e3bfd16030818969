-- A text walked line by line and a line token by token, from a position on: what a loop over them says of the definitions.
use Rattle.std.specs.Prelude.{ℕ, zero, suc, ◌+◌, ◌*◌, ◌<◌, ◌≡◌, refl, Bool, true, false, not, ◌&&◌, ◌||◌, List, [], ◌∷◌, map, length, get_or, take, drop, ℤ, eqb, ltb, if◌then◌else◌}
use Rattle.std.proofs.Common.{add-zero, zero-add, add_assoc, add-mul, mul_assoc, mul-one, arith, sym, ap, ap₂, ◌∙◌, ne_eqb, eq-eqb, eqb-true, lt-ltb}
use Rattle.std.proofs.Math.Option.{Option, some, none}
use Rattle.std.proofs.Math.Dec.{eqb-suc-suc, leb-suc-suc}
use Rattle.automaton.specs.Shape as shape
use Rattle.automaton.specs.Shape.{product}
use Rattle.token.specs.Bytes.{byte_kind, kind_of}
use Rattle.token.specs.Kind.{delimiter}
use Rattle.program.specs.Syntax.{Range}
use Rattle.list_meaning.specs.Text.{line, in_front, lines, Piece, literal, sign, pieces}
use Rattle.list_meaning.specs.Lines.{bad, said_in, say, said, Indexed, indexed, with_index, indices, before_values}
use Rattle.list_meaning.specs.ListChecking.{Limits, inside, value_fits, all_fit, is_zero, clears, cell_line_number}
use Rattle.list_meaning.specs.Setting.{store_values}
use Rattle.list_meaning.specs.Promises.Walking.{wrong, placed, to_end, place_from, placed_by, head_fits, none_left, rest_of, keeps_flag, all_keep, values_number, store_one, stored_by}

-- the first line has an end: what is behind it is read next
pub lines_cut : (s : List ℕ) → to_end s < length s → lines s ≡ line (take (to_end s) s) true ∷ lines (drop (suc (to_end s)) s)
unfolding to_end lines
lines_cut [] l = absurd (omega arith)
lines_cut (b ∷ bs) l = by (eqb (kind_of b) byte_kind.line_end) refl l (lines_cut bs)
  where
    by : (t : Bool) → eqb (kind_of b) byte_kind.line_end ≡ t → (if t then 0 else suc (to_end bs)) < suc (length bs)
        → (to_end bs < length bs → lines bs ≡ line (take (to_end bs) bs) true ∷ lines (drop (suc (to_end bs)) bs))
        → lines (b ∷ bs) ≡ line (take (to_end (b ∷ bs)) (b ∷ bs)) true ∷ lines (drop (suc (to_end (b ∷ bs))) (b ∷ bs))
    by true e l h = rw (e, lines)
    by false e l h = rw (e, lines) (ap (in_front b) (h (omega arith)))

-- the last line has none
pub lines_last : (b : ℕ) (bs : List ℕ) → to_end (b ∷ bs) ≡ length (b ∷ bs) → lines (b ∷ bs) ≡ line (b ∷ bs) false ∷ []
unfolding to_end lines
lines_last b [] l = by (eqb (kind_of b) byte_kind.line_end) refl l
  where
    by : (t : Bool) → eqb (kind_of b) byte_kind.line_end ≡ t → ◌≡◌ {A = ℕ} (if t then 0 else 1) 1 → lines (b ∷ []) ≡ line (b ∷ []) false ∷ []
    by true e l = absurd (let w : ◌≡◌ {A = ℕ} 0 1 = l in omega arith)
    by false e l = rw (e, lines)
lines_last b (c ∷ cs) l = by (eqb (kind_of b) byte_kind.line_end) refl l (lines_last c cs)
  where
    by : (t : Bool) → eqb (kind_of b) byte_kind.line_end ≡ t → (if t then 0 else suc (to_end (c ∷ cs))) ≡ suc (length (c ∷ cs))
        → (to_end (c ∷ cs) ≡ length (c ∷ cs) → lines (c ∷ cs) ≡ line (c ∷ cs) false ∷ []) → lines (b ∷ c ∷ cs) ≡ line (b ∷ c ∷ cs) false ∷ []
    by true e l h = absurd (omega arith)
    by false e l h = rw (e, lines) (ap (in_front b) (h (omega arith)))

-- what a text says, line by line
pub said_cut : (s : List ℕ) → to_end s < length s → said s ≡ said_in (pieces 0 (take (to_end s) s)) ∷ said (drop (suc (to_end s)) s)
unfolding said say
said_cut s l = ap (map say) (lines_cut s l)

pub said_last : (b : ℕ) (bs : List ℕ) → to_end (b ∷ bs) ≡ length (b ∷ bs) → said (b ∷ bs) ≡ bad ∷ []
unfolding said say
said_last b bs l = ap (map say) (lines_last b bs l)

-- ---- tokens

-- bytes of a literal that has been read are passed over
pub pieces_drop : (k : ℕ) (s : List ℕ) → pieces k s ≡ pieces 0 (drop k s)
unfolding pieces
pieces_drop zero s = refl
pieces_drop (suc k) [] = refl
pieces_drop (suc k) (b ∷ bs) = pieces_drop k bs

-- an index that is read has an element
abbrev Filled : Option Indexed → Type 0
Filled none = Unit {0}
Filled (some i) = 0 < length i.index

filled_more : (n : ℕ) (o : Option Indexed) → Filled (with_index n o)
filled_more n none = tt
filled_more n (some i) = omega arith

indices_filled : (ps : List Piece) → Filled (indices ps)
unfolding indices
indices_filled [] = tt
indices_filled (sign k ∷ ps) = tt
indices_filled (literal n ∷ []) = tt
indices_filled (literal n ∷ literal m ∷ ps) = tt
indices_filled (literal n ∷ sign k ∷ ps) = by (eqb k delimiter.unbracket) (eqb k delimiter.comma)
  where
    by : (a b : Bool) → Filled (if a then some (indexed (n ∷ []) ps) else if b then with_index n (indices ps) else none)
    by true b = omega arith
    by false true = filled_more n (indices ps)
    by false false = tt

-- one element more than there are dimensions
too_many : (n : ℕ) (out : Bool) (c i : ℕ) (o : Option Indexed) → Filled o → wrong ≡ placed_by (n ∷ []) out c (with_index i o)
too_many n out c i none f = refl
too_many n out c i (some x) f = rw (ne_eqb (suc (length x.index)) 1 (λ e. let w = e in omega arith))

-- and one fewer
too_few : (n m : ℕ) (ns : List ℕ) (out : Bool) (c i : ℕ) (ps : List Piece) → wrong ≡ placed_by (n ∷ m ∷ ns) out c (some (indexed (i ∷ []) ps))
too_few n m ns out c i ps = rw (ne_eqb 1 (suc (suc (length ns))) (λ e. let w = e in omega arith))

outside_more : (out a b : Bool) → ((out || not a) || not b) ≡ (out || not (a && b))
outside_more true a b = refl
outside_more false true b = refl
outside_more false false true = refl
outside_more false false false = refl

-- an element in front
one_more : (n m : ℕ) (ns : List ℕ) (out : Bool) (c i : ℕ) (o : Option Indexed)
    → placed_by (m ∷ ns) (out || not (ltb i n)) (c * n + i) o ≡ placed_by (n ∷ m ∷ ns) out c (with_index i o)
unfolding inside
one_more n m ns out c i none = refl
one_more n m ns out c i (some x) =
    let t : eqb (suc (length x.index)) (suc (suc (length ns))) ≡ eqb (length x.index) (suc (length ns)) = eqb-suc-suc (length x.index) (suc (length ns)) in
    let p : (c * n + i) * (m * product ns) + shape.cell_number (m ∷ ns) x.index ≡ c * (n * (m * product ns)) + (i * (m * product ns) + shape.cell_number (m ∷ ns) x.index) =
    ap (λ (y : ℕ). y + shape.cell_number (m ∷ ns) x.index) (add-mul (c * n) i (m * product ns) ∙ ap (λ (y : ℕ). y + i * (m * product ns)) (mul_assoc c n (m * product ns)))
    ∙ add_assoc (c * (n * (m * product ns))) (i * (m * product ns)) (shape.cell_number (m ∷ ns) x.index) in
    ap₂ (λ (a : Bool) (b : ℕ). if eqb (length x.index) (suc (length ns)) then placed a b x.rest else wrong) (outside_more out (ltb i n) (inside (m ∷ ns) x.index)) p
    ∙ ap (λ (u : Bool). if u then placed (out || not (ltb i n && inside (m ∷ ns) x.index)) (c * (n * (m * product ns)) + (i * (m * product ns) + shape.cell_number (m ∷ ns) x.index)) x.rest else wrong) (sym t)

-- the last element
last_one : (n : ℕ) (out : Bool) (c i : ℕ) (ps : List Piece) → placed (out || not (ltb i n)) (c * n + i) ps ≡ placed_by (n ∷ []) out c (some (indexed (i ∷ []) ps))
unfolding inside
last_one n out c i ps =
    ap₂ (λ (a : Bool) (b : ℕ). placed a b ps) (only out (ltb i n))
    (let p : c * n + i ≡ c * (n * 1) + (i * 1 + 0) = ap₂ (λ (y z : ℕ). c * y + z) (sym (mul-one n)) (sym (add-zero (i * 1) ∙ mul-one i)) in p)
  where
    only : (o a : Bool) → (o || not a) ≡ (o || not (a && true))
    only true a = refl
    only false true = refl
    only false false = refl

-- the walk gives what the index is to the grid
pub place_is : (n : ℕ) (ns : List ℕ) (out : Bool) (c : ℕ) (ps : List Piece) → place_from (n ∷ ns) out c ps ≡ placed_by (n ∷ ns) out c (indices ps)
unfolding place_from indices
place_is n ns out c [] = refl
place_is n ns out c (sign k ∷ ps) = refl
place_is n ns out c (literal i ∷ []) = refl
place_is n ns out c (literal i ∷ literal m ∷ ps) = refl
place_is n [] out c (literal i ∷ sign k ∷ ps) = by (eqb k delimiter.unbracket) (eqb k delimiter.comma)
  where
    by : (a b : Bool) → (if a then placed (out || not (ltb i n)) (c * n + i) ps else wrong) ≡ placed_by (n ∷ []) out c (if a then some (indexed (i ∷ []) ps) else if b then with_index i (indices ps) else none)
    by true b = last_one n out c i ps
    by false true = too_many n out c i (indices ps) (indices_filled ps)
    by false false = refl
place_is n (m ∷ ns) out c (literal i ∷ sign k ∷ ps) = by (eqb k delimiter.unbracket) refl (eqb k delimiter.comma) refl (place_is m ns (out || not (ltb i n)) (c * n + i) ps)
  where
    by : (a : Bool) → eqb k delimiter.unbracket ≡ a → (b : Bool) → eqb k delimiter.comma ≡ b
        → place_from (m ∷ ns) (out || not (ltb i n)) (c * n + i) ps ≡ placed_by (m ∷ ns) (out || not (ltb i n)) (c * n + i) (indices ps)
        → (if b then place_from (m ∷ ns) (out || not (ltb i n)) (c * n + i) ps else wrong)
        ≡ placed_by (n ∷ m ∷ ns) out c (if a then some (indexed (i ∷ []) ps) else if b then with_index i (indices ps) else none)
    by true ea true eb h = absurd (let x = eqb-true k 93 ea in let y = eqb-true k 44 eb in omega arith)
    by true ea false eb h = too_few n m ns out c i ps
    by false ea true eb h = h ∙ one_more n m ns out c i (indices ps)
    by false ea false eb h = refl

-- no index fits a grid without dimensions
pub place_none : (out : Bool) (c : ℕ) (ps : List Piece) → place_from [] out c ps ≡ placed_by [] out c (indices ps)
unfolding place_from
place_none out c ps = by (indices ps) (indices_filled ps)
  where
    by : (o : Option Indexed) → Filled o → wrong ≡ placed_by [] out c o
    by none f = refl
    by (some i) f = rw (ne_eqb (length i.index) 0 (λ e. let w = e in omega arith))

-- behind the flag none gives it 0
keep_behind : (f k : ℕ) (vs : List (Option ℤ)) → f < k → all_keep f k vs ≡ true
keep_behind f k [] l = refl
keep_behind f k (v ∷ vs) l = rw (ne_eqb k f (λ e. let w = e in omega arith)) (keep_behind f (suc k) vs (omega arith))

cleared_from : (f k : ℕ) (vs : List (Option ℤ)) → is_zero (get_or vs f none) ≡ not (all_keep (k + f) k vs)
cleared_from f k [] = refl
cleared_from zero k (v ∷ vs) = rw (eq-eqb k (k + 0) (sym (add-zero k)), keep_behind (k + 0) (suc k) vs (omega arith)) (twice (is_zero v))
  where
    twice : (b : Bool) → b ≡ not (not b && true)
    twice true = refl
    twice false = refl
cleared_from (suc f) k (v ∷ vs) =
    rw (ne_eqb k (k + suc f) (λ e. let w = e in omega arith))
    (cleared_from f (suc k) vs ∙ ap (λ (i : ℕ). not (all_keep i (suc k) vs)) (let e : suc k + f ≡ k + suc f = omega arith in e))

-- it is the number of a cell's line whose index is right
pub values_last : (q : Limits) (f : ℕ) (is : List ℕ) (vs : List (Option ℤ)) → q.flag ≡ some f → eqb (length is) (length q.sizes) ≡ true → inside q.sizes is ≡ true
    → cell_line_number q is vs ≡ values_number q.fields f 0 false true true (some vs)
unfolding cell_line_number
values_last q f is vs g e i =
    let c : clears q.flag vs ≡ not (all_keep f 0 vs) =
    ap (λ (o : Option ℕ). clears o vs) g ∙ cleared_from f 0 vs ∙ ap (λ (j : ℕ). not (all_keep j 0 vs)) (zero-add f) in
    rw (e, i, c)

choices : (a b c d e g h i : Bool)
    → ◌≡◌ {A = ℕ} (if a || c then 52 else if not (b && (d && e)) then 53 else if not (g && (h && i)) then 58 else 0)
    (if (a || false) || c then 52 else if not ((b && d) && e) then 53 else if not ((g && h) && i) then 58 else 0)
choices true b c d e g h i = refl
choices false true c d e true h i = refl
choices false true c d e false h i = refl
choices false false true d e g h i = refl
choices false false false d e g h i = refl

-- one value more
pub one_value : (rs : List Range) (f k : ℕ) (over fit kept : Bool) (v : Option ℤ) (o : Option (List (Option ℤ)))
    → values_number rs f k over fit kept (before_values v o)
    ≡ values_number (rest_of rs) f (suc k) (over || none_left rs) (fit && head_fits rs v) (kept && keeps_flag f k v) o
unfolding all_fit
one_value rs f k over fit kept v none = refl
one_value [] f k over fit kept v (some vs) = by over
  where
    by : (a : Bool) → ◌≡◌ {A = ℕ} (if a || ltb 0 (suc (length vs)) then 52 else if not (fit && true) then 53 else if not (kept && all_keep f k (v ∷ vs)) then 58 else 0)
        (if (a || true) || ltb 0 (length vs) then 52 else if not ((fit && true) && all_fit [] vs) then 53 else if not ((kept && keeps_flag f k v) && all_keep f (suc k) vs) then 58 else 0)
    by true = refl
    by false = rw (lt-ltb 0 (suc (length vs)) (omega arith))
one_value (r ∷ rs) f k over fit kept v (some vs) =
    ap (λ (t : Bool). if over || t then 52 else if not (fit && (value_fits r v && all_fit rs vs)) then 53 else if not (kept && all_keep f k (v ∷ vs)) then 58 else 0) (leb-suc-suc (suc (length rs)) (length vs))
    ∙ choices over fit (ltb (length rs) (length vs)) (value_fits r v) (all_fit rs vs) kept (keeps_flag f k v) (all_keep f (suc k) vs)

pub one_stored : (g : List ℤ) (e : ℕ) (v : Option ℤ) (vs : List (Option ℤ)) → stored_by g e (before_values v (some vs)) ≡ stored_by (store_one g e v) (suc e) (some vs)
unfolding store_values
one_stored g e none vs = refl
one_stored g e (some z) vs = refl
