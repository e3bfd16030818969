-- The cells of a box are those that a change opens.
use Prim.Native.Nat.{ℕ, zero, suc, ◌+◌, ◌-◌, ◌*◌, ◌%◌, ◌≤◌, ◌<◌}
use native.Mathlib.Nat.{mul-le-mul_left, mul-le-mul_right, le_trans, mod-lt, mod-le, mod-eq_of_lt, mod-add-mod, add-mod-mod, add-mod_right}
use native.Mathlib.Decide.{dec_le}
use native.Mathlib.Omega.{arith}
use mathlib.Core.Path.{◌≡◌, refl, sym, ap, ◌∙◌, subst}
use mathlib.Core.Logic.{◌↔◌}
use mathlib.Core.List.Memᴰ
use mathlib.Core.List.{List, [], ◌∷◌, map, Memᴰ}
use lib.ListN.{length, get_or, take, drop, length-drop}
use lib.Seq.{get_or-drop}
use borrow.Author.Rules.{part_to_end}
use lib.IntN.{ℤ, pos, negsuc, neg_ℤ}
use Rattle.value.specs.Worked.{wrap_of}
use Rattle.automaton.specs.Shape.{product, cell_number, coordinates, shift, neighbour, Bound, width, box_indices, reach_of}
use Rattle.automaton.specs.Promises.Opening.{opens_of}
use Rattle.automaton.specs.Promises.ShapeLaws.{Inside, Positive, Alike, Within, AllWithin}
use Rattle.automaton.proofs.ShapeLaws.{product_pos, wrap_mod, reach_opens, mem_box, box_alike, coordinates_inside}
use Rattle.run_meaning.specs.Reach.{own_only}
use Rattle.run_marking.specs.Promises.Noting.{note_all, noted_rows, noted_line, noted_lines, box_cells, opened_from, opened_count, cells_opened, Boxed, CountsWithin}
use Rattle.run_marking.proofs.NotingLaws.{mem_rows, rows_same, Noted, noted_done}

-- ---- one dimension

module _ (n : ℕ) (b : Bound) (i : ℕ) (l : i < n) (near : b.ahead ≤ n) where
  -- the e-th coordinate that is opened
  abbrev opened_at : ℕ → ℕ
  opened_at e = (opened_from n b i + e) % n

  summed : (e : ℕ) → opened_at e ≡ (i + (n - b.ahead) + e) % n
  summed e = mod-add-mod (i + (n - b.ahead)) n e

  at_ahead : (m : ℕ) → m ≤ b.ahead → opened_at (b.ahead - m) ≡ wrap_of i (neg_ℤ (pos m)) n
  at_ahead zero h =
      let s : i + (n - b.ahead) + (b.ahead - 0) ≡ i + 0 + n = omega arith in
      summed (b.ahead - 0) ∙ ap (λ (x : ℕ). x % n) s ∙ add-mod_right (i + 0) n
  at_ahead (suc m) h =
      let r : m % n ≡ m = mod-eq_of_lt (le_trans h near) in
      let s : i + (n - b.ahead) + (b.ahead - suc m) ≡ i + (n - suc (m % n)) = omega arith in
      summed (b.ahead - suc m) ∙ ap (λ (x : ℕ). x % n) s ∙ sym (wrap_mod n i (negsuc m) (omega arith))

  at_back : (m : ℕ) → opened_at (b.ahead + suc m) ≡ wrap_of i (neg_ℤ (negsuc m)) n
  at_back m =
      let s : i + (n - b.ahead) + (b.ahead + suc m) ≡ i + suc m + n = omega arith in
      summed (b.ahead + suc m) ∙ ap (λ (x : ℕ). x % n) s ∙ add-mod_right (i + suc m) n

  line_there : (e : ℕ) → e < opened_count n b → (d : ℤ) × Within b d × (opened_at e ≡ wrap_of i (neg_ℤ d) n)
  line_there e h = go (dec_le e b.ahead)
    where
      go : Dec (e ≤ b.ahead) → (d : ℤ) × Within b d × (opened_at e ≡ wrap_of i (neg_ℤ d) n)
      go (yes q) =
          let s : e ≡ b.ahead - (b.ahead - e) = omega arith in
          let w : b.ahead - e ≤ b.ahead = omega arith in
          (pos (b.ahead - e), w, ap opened_at s ∙ at_ahead (b.ahead - e) w)
      go (no q) =
          let s : e ≡ b.ahead + suc (e - suc b.ahead) = omega arith in
          let w : e - suc b.ahead < b.back = omega arith in
          (negsuc (e - suc b.ahead), w, ap opened_at s ∙ at_back (e - suc b.ahead))

  line_back : (d : ℤ) → Within b d → (e : ℕ) × (e < opened_count n b) × (opened_at e ≡ wrap_of i (neg_ℤ d) n)
  line_back d w = go d w
    where
      -- a coordinate past the count is one before it
      folded : (e x : ℕ) → e < width b → opened_at e ≡ x → (e : ℕ) × (e < opened_count n b) × (opened_at e ≡ x)
      folded e x h q =
          let z : e % n < n = mod-lt e (omega arith) in
          (e % n, omega (arith, mod-le e n), add-mod-mod (opened_from n b i) e n ∙ q)

      go : (d : ℤ) → Within b d → (e : ℕ) × (e < opened_count n b) × (opened_at e ≡ wrap_of i (neg_ℤ d) n)
      go (pos m) h = folded (b.ahead - m) _ (omega arith) (at_ahead m h)
      go (negsuc m) h = folded (b.ahead + suc m) _ (omega arith) (at_back m)

-- ---- all dimensions

pub regroup : (base n w p x : ℕ) → (base * n + w) * p + x ≡ base * (n * p) + (w * p + x)
regroup base n w p x = omega arith

-- the cell c is at a negated relative index within the bounds, from the coordinates `is`
abbrev pub Opens : List ℕ → List Bound → List ℕ → ℕ → ℕ → Type 0
Opens ns bs is base c = (ds : List ℤ) × AllWithin bs ds × (c ≡ base * product ns + cell_number ns (shift ns is (map neg_ℤ ds)))

-- what the first coordinates and the counts of a box are
pub record Follows (ns : List ℕ) (bs : List Bound) (is : List ℕ) (first count : ℕ → ℕ) : Type 0 where
  pub firsts : (k : ℕ) → k < length ns → first k ≡ opened_from (get_or ns k 0) (get_or bs k own_only) (get_or is k 0)
  pub counts : (k : ℕ) → k < length ns → count k ≡ opened_count (get_or ns k 0) (get_or bs k own_only)
  pub near : (k : ℕ) → k < length ns → (get_or bs k own_only).ahead ≤ get_or ns k 0

follows_rest : {n : ℕ} {ns : List ℕ} {b : Bound} {bs : List Bound} {i : ℕ} {is : List ℕ} {first count : ℕ → ℕ}
    → Follows (n ∷ ns) (b ∷ bs) (i ∷ is) first count → Follows ns bs is (λ k. first (suc k)) (λ k. count (suc k))
follows_rest f = record {
  firsts = λ k l. f.firsts (suc k) (omega arith);
  counts = λ k l. f.counts (suc k) (omega arith);
  near = λ k l. f.near (suc k) (omega arith);
}

-- one dimension more
module _ (n : ℕ) (ns : List ℕ) (b : Bound) (bs : List Bound) (i : ℕ) (is : List ℕ) (first count : ℕ → ℕ) (inside : i < n)
    (f : Follows (n ∷ ns) (b ∷ bs) (i ∷ is) first count) (base c : ℕ) (row : ℕ → List ℕ)
    (rest : (e : ℕ) → Memᴰ c (row e) ↔ Opens ns bs is (base * n + (first 0 + e) % n) c) where
  near_first : b.ahead ≤ n
  near_first = f.near 0 (omega arith)

  start : (e : ℕ) → (first 0 + e) % n ≡ (opened_from n b i + e) % n
  start e = ap (λ (x : ℕ). (x + e) % n) (f.firsts 0 (omega arith))

  step_there : Memᴰ c (noted_rows row (count 0)) → Opens (n ∷ ns) (b ∷ bs) (i ∷ is) base c
  step_there m =
      let r = (mem_rows row c (count 0)).0 m in
      let o = (rest r.0).0 r.2 in
      let q = f.counts 0 (omega arith) in
      let d = line_there n b i inside near_first r.0 (omega (arith, r.1)) in
      let x = cell_number ns (shift ns is (map neg_ℤ o.0)) in
      (d.0 ∷ o.0, (d.1, o.1), o.2 ∙ ap (λ (w : ℕ). (base * n + w) * product ns + x) (start r.0 ∙ d.2) ∙ regroup base n _ (product ns) x)

  step_back : Opens (n ∷ ns) (b ∷ bs) (i ∷ is) base c → Memᴰ c (noted_rows row (count 0))
  step_back (d ∷ ds, w, e) =
      let k = line_back n b i inside near_first d w.0 in
      let q = f.counts 0 (omega arith) in
      let x = cell_number ns (shift ns is (map neg_ℤ ds)) in
      let o : Opens ns bs is (base * n + (first 0 + k.0) % n) c =
      (ds, w.1, e ∙ sym (regroup base n _ (product ns) x) ∙ ap (λ (y : ℕ). (base * n + y) * product ns + x) (sym (start k.0 ∙ k.2)))
      in
      (mem_rows row c (count 0)).1 (k.0, omega (arith, k.1), (rest k.0).1 o)
  step_back ([], w, e) = absurd w

pub box_opens : (ns : List ℕ) (bs : List Bound) (is : List ℕ) (first count : ℕ → ℕ) → Inside ns is → Alike ns bs → Follows ns bs is first count
    → (base c : ℕ) → Memᴰ c (box_cells ns first count base) ↔ Opens ns bs is base c
unfolding box_cells
box_opens [] [] [] first count inside alike f base c = (there, back)
  where
    there : Memᴰ c (base ∷ []) → Opens [] [] [] base c
    there m = let e = Memᴰ.eq_of_singleton m in ([], tt, omega arith)

    back : Opens [] [] [] base c → Memᴰ c (base ∷ [])
    back r = let e : c ≡ base = omega (arith, r.2) in Memᴰ.head e
box_opens (n ∷ ns) (b ∷ bs) (i ∷ is) first count inside alike f base c =
    let rest : (e : ℕ) → Memᴰ c (box_cells ns (λ k. first (suc k)) (λ k. count (suc k)) (base * n + (first 0 + e) % n)) ↔ Opens ns bs is (base * n + (first 0 + e) % n) c =
    λ e. box_opens ns bs is (λ k. first (suc k)) (λ k. count (suc k)) inside.1 alike (follows_rest f) (base * n + (first 0 + e) % n) c
    in
    (step_there n ns b bs i is first count inside.0 f base c _ rest, step_back n ns b bs i is first count inside.0 f base c _ rest)
box_opens [] [] (i ∷ is) first count inside alike f base c = elim inside [ ]
box_opens [] (b ∷ bs) is first count inside alike f base c = elim alike [ ]
box_opens (n ∷ ns) [] is first count inside alike f base c = elim alike [ ]
box_opens (n ∷ ns) (b ∷ bs) [] first count inside alike f base c = elim inside [ ]

-- ---- the cells that have a cell in their reach

pub opens_reach : (ns : List ℕ) (bs : List Bound) (bound : ℕ → Bound) → Positive ns → Alike ns bs → ((k : ℕ) → k < length ns → get_or bs k own_only ≡ bound k)
    → ((k : ℕ) → k < length ns → (bound k).ahead ≤ get_or ns k 0) → (c x : ℕ) → c < product ns → x < product ns
    → Memᴰ c (cells_opened ns bound x) ↔ Memᴰ x (reach_of ns (box_indices bs) c)
unfolding cells_opened opens_of neighbour
opens_reach ns bs bound positive alike same near c x lc lx = (there, back)
  where
    turn : Memᴰ x (reach_of ns (box_indices bs) c) ↔ Memᴰ c (opens_of ns (box_indices bs) x)
    turn = reach_opens ns positive (box_indices bs) (box_alike ns bs alike) c x lc lx

    f : List ℤ → ℕ
    f ds = neighbour ns x (map neg_ℤ ds)

    follows : Follows ns bs (coordinates ns x) (λ k. opened_from (get_or ns k 0) (bound k) (get_or (coordinates ns x) k 0)) (λ k. opened_count (get_or ns k 0) (bound k))
    follows = record {
      firsts = λ k l. ap (λ (b : Bound). opened_from (get_or ns k 0) b (get_or (coordinates ns x) k 0)) (sym (same k l));
      counts = λ k l. ap (opened_count (get_or ns k 0)) (sym (same k l));
      near = λ k l. rw (same k l) (near k l);
    }

    box : Memᴰ c (cells_opened ns bound x) ↔ Opens ns bs (coordinates ns x) 0 c
    box = box_opens ns bs (coordinates ns x) _ _ (coordinates_inside ns x positive lx) alike follows 0 c

    there : Memᴰ c (cells_opened ns bound x) → Memᴰ x (reach_of ns (box_indices bs) c)
    there m =
        let o = box.0 m in
        turn.1 (Memᴰ.cast (let e = o.2 in omega arith) (Memᴰ.map f ((mem_box bs o.0).1 o.1)))

    back : Memᴰ x (reach_of ns (box_indices bs) c) → Memᴰ c (cells_opened ns bound x)
    back m =
        let r = Memᴰ.of_map f (box_indices bs) (turn.0 m) in
        box.1 (r.0, (mem_box bs r.0).0 r.1, let e = r.2 in omega arith)

-- ---- the same box

pub box_same : (ns : List ℕ) (first first' count count' : ℕ → ℕ) → ((k : ℕ) → k < length ns → first k ≡ first' k) → ((k : ℕ) → k < length ns → count k ≡ count' k)
    → (base : ℕ) → box_cells ns first count base ≡ box_cells ns first' count' base
unfolding box_cells
box_same [] first first' count count' f g base = refl
box_same (n ∷ ns) first first' count count' f g base =
    rows_same _ _ (count 0)
    (λ e. box_same ns _ _ _ _ (λ k l. f (suc k) (omega arith)) (λ k l. g (suc k) (omega arith)) (base * n + (first 0 + e) % n)
    ∙ ap (λ (x : ℕ). box_cells ns (λ k. first' (suc k)) (λ k. count' (suc k)) (base * n + (x + e) % n)) (f 0 (omega arith)))
    ∙ ap (noted_rows _) (g 0 (omega arith))

-- ---- a line for each coordinate of the dimension before the last

module _ (base n m cells : ℕ) (room : (base + 1) * (n * m) ≤ cells) where
  -- the cells of one coordinate lie within the cells
  pub line_room : (j : ℕ) → j < n → (base * n + j + 1) * m ≤ cells
  line_room j l =
      let a : base * n + j + 1 ≤ (base + 1) * n = omega arith in
      let b : (base * n + j + 1) * m ≤ (base + 1) * n * m = mul-le-mul_right m a in
      omega arith

  pub line_base : 0 < m → (j : ℕ) → j < n → base * n + j + 1 ≤ cells
  line_base h j l = omega (arith, line_room j l, mul-le-mul_left (base * n + j + 1) h)

  pub line_count : 0 < m → (j : ℕ) → j < n → n ≤ cells
  line_count h j l = let k : n - 1 < n = omega arith in omega (arith, line_base h (n - 1) k)

-- the line of the coordinate that a loop has come to
pub line_noted : (base n first m start width : ℕ) (marks marks' : List ℕ) (j e : ℕ) → j ≡ (first + e) % n
    → marks' ≡ note_all (noted_rows (noted_line ((base * n + j) * m) m start) width) marks → marks' ≡ note_all (noted_lines base n first m start width e) marks
line_noted base n first m start width marks marks' j e at q =
    q ∙ ap (λ (x : ℕ). note_all (noted_rows (noted_line ((base * n + x) * m) m start) width) marks) at

-- a wrapped coordinate is one of the dimension
pub wrapped : (a : ℕ) {n j : ℕ} → j ≡ a % n → 0 < n → j < n
wrapped a {n} e h = subst (λ (x : ℕ). x < n) (sym e) (mod-lt a h)

-- ---- one dimension after the other

abbrev pub entry : List ℕ → ℕ → ℕ
entry xs k = get_or xs k 0

abbrev pub box_row : List ℕ → List ℕ → List ℕ → ℕ → ℕ → List ℕ
box_row ns firsts counts base e = box_cells (drop 1 ns) (entry (drop 1 firsts)) (entry (drop 1 counts)) (base * entry ns 0 + (entry firsts 0 + e) % entry ns 0)

pub box_rows : (ns firsts counts : List ℕ) (base : ℕ) → 0 < length ns → length ns ≤ length firsts → length ns ≤ length counts
    → box_cells ns (entry firsts) (entry counts) base ≡ noted_rows (box_row ns firsts counts base) (entry counts 0)
unfolding box_cells
box_rows [] firsts counts base h p q = absurd (omega arith)
box_rows (n ∷ ns) [] counts base h p q = absurd (omega arith)
box_rows (n ∷ ns) (f ∷ firsts) [] base h p q = absurd (omega arith)
box_rows (n ∷ ns) (f ∷ firsts) (k ∷ counts) base h p q = refl

pub box_line : (ns firsts counts : List ℕ) (base : ℕ) → length ns ≡ 1
    → box_cells ns (entry firsts) (entry counts) base ≡ noted_rows (noted_line (base * entry ns 0) (entry ns 0) (entry firsts 0)) (entry counts 0)
unfolding box_cells
box_line [] firsts counts base h = absurd (omega arith)
box_line (n ∷ []) firsts counts base h = refl
box_line (n ∷ m ∷ ns) firsts counts base h = absurd (omega arith)

pub box_lines : (ns firsts counts : List ℕ) (base : ℕ) → length ns ≡ 2
    → box_cells ns (entry firsts) (entry counts) base
    ≡ noted_rows (noted_lines base (entry ns 0) (entry firsts 0) (entry ns 1) (entry firsts 1) (entry counts 1)) (entry counts 0)
unfolding box_cells
box_lines [] firsts counts base h = absurd (omega arith)
box_lines (n ∷ []) firsts counts base h = absurd (omega arith)
box_lines (n ∷ m ∷ []) firsts counts base h = refl
box_lines (n ∷ m ∷ l ∷ ns) firsts counts base h = absurd (omega arith)

last_size : (ns : List ℕ) → length ns ≡ 2 → product (drop 1 ns) ≡ entry ns 1
last_size [] h = absurd (omega arith)
last_size (n ∷ []) h = absurd (omega arith)
last_size (n ∷ m ∷ []) h = omega arith
last_size (n ∷ m ∷ l ∷ ns) h = absurd (omega arith)

room_split : (ns : List ℕ) → 0 < length ns → product ns ≡ entry ns 0 * product (drop 1 ns)
room_split [] h = absurd (omega arith)
room_split (n ∷ ns) h = refl

rest_positive : (ns : List ℕ) → Positive ns → Positive (drop 1 ns)
rest_positive [] h = tt
rest_positive (n ∷ ns) h = h.1

-- a slice from its second element on
abbrev pub rest_of : List ℕ → List ℕ
rest_of xs = take (length xs - 1) (drop 1 xs)

module _ (ns firsts counts : List ℕ) (base cells : ℕ) (s : Boxed ns firsts counts base cells) {n : ℕ} (en : n ≡ entry ns 0) where
  pub boxed_first : entry firsts 0 < n
  boxed_first = rw en (s.inside 0 s.some_dims)

  whole : (base + 1) * (n * product (drop 1 ns)) ≤ cells
  whole = rw (en, ← room_split ns s.some_dims) s.room

  pub boxed_room : base * n + n ≤ cells
  boxed_room = omega (arith, whole, mul-le-mul_left ((base + 1) * n) (product_pos (drop 1 ns) (rest_positive ns s.positive)))

  boxed_drop : 1 < length ns → (j : ℕ) → j < n → Boxed (drop 1 ns) (drop 1 firsts) (drop 1 counts) (base * n + j) cells
  boxed_drop m j l = record {
    some_dims = omega (arith, length-drop 1 ns);
    dims = omega (arith, length-drop 1 ns, s.dims);
    positive = rest_positive ns s.positive;
    firsts_fit = omega (arith, length-drop 1 ns, length-drop 1 firsts, s.firsts_fit);
    counts_fit = omega (arith, length-drop 1 ns, length-drop 1 counts, s.counts_fit);
    inside = λ k h. rw (get_or-drop 1 firsts k 0, get_or-drop 1 ns k 0) (s.inside (1 + k) (omega (arith, length-drop 1 ns)));
    room = line_room base n (product (drop 1 ns)) cells whole j l;
    few = s.few;
  }

  pub boxed_rest : 1 < length ns → (j : ℕ) → j < n → Boxed (rest_of ns) (rest_of firsts) (rest_of counts) (base * n + j) cells
  boxed_rest m j l = rw (part_to_end ns 1, part_to_end firsts 1, part_to_end counts 1) (boxed_drop m j l)

  -- the last dimension is a line
  pub line_done : (marks marks' : List ℕ) → length ns ≡ 1 → marks' ≡ note_all (noted_rows (noted_line (base * n) n (entry firsts 0)) (entry counts 0)) marks
      → marks' ≡ note_all (box_cells ns (entry firsts) (entry counts) base) marks
  line_done marks marks' h q =
      q ∙ ap (λ (x : ℕ). note_all (noted_rows (noted_line (base * x) x (entry firsts 0)) (entry counts 0)) marks) en
      ∙ ap (λ (cs : List ℕ). note_all cs marks) (sym (box_line ns firsts counts base h))

  -- the last two dimensions are some lines
  pub boxed_lines : {m : ℕ} → length ns ≡ 2 → m ≡ entry ns 1 → CountsWithin ns counts
      → (entry firsts 0 < n) × (entry counts 0 ≤ n) × (entry firsts 1 < m) × (entry counts 1 ≤ m) × ((base + 1) * (n * m) ≤ cells) × (cells ≤ 1048576)
  boxed_lines h em f = (boxed_first, rw en (f.each 0 s.some_dims), rw em (s.inside 1 (omega arith)), rw em (f.each 1 (omega arith)), rw (em, ← last_size ns h) whole, s.few)

  pub lines_done : (marks marks' : List ℕ) {m : ℕ} → length ns ≡ 2 → m ≡ entry ns 1
      → marks' ≡ note_all (noted_rows (noted_lines base n (entry firsts 0) m (entry firsts 1) (entry counts 1)) (entry counts 0)) marks
      → marks' ≡ note_all (box_cells ns (entry firsts) (entry counts) base) marks
  lines_done marks marks' {m} h em q =
      q ∙ ap (λ (x : ℕ). note_all (noted_rows (noted_lines base x (entry firsts 0) m (entry firsts 1) (entry counts 1)) (entry counts 0)) marks) en
      ∙ ap (λ (x : ℕ). note_all (noted_rows (noted_lines base (entry ns 0) (entry firsts 0) x (entry firsts 1) (entry counts 1)) (entry counts 0)) marks) em
      ∙ ap (λ (cs : List ℕ). note_all cs marks) (sym (box_lines ns firsts counts base h))

  -- any other is one row after the other
  pub row_done : (marks marks' : List ℕ) (j e : ℕ) → j ≡ (entry firsts 0 + e) % n
      → marks' ≡ note_all (box_cells (rest_of ns) (entry (rest_of firsts)) (entry (rest_of counts)) (base * n + j)) marks
      → marks' ≡ note_all (box_row ns firsts counts base e) marks
  row_done marks marks' j e at q =
      (rw (part_to_end ns 1, part_to_end firsts 1, part_to_end counts 1) at q)
      ∙ ap (λ (x : ℕ). note_all (box_cells (drop 1 ns) (entry (drop 1 firsts)) (entry (drop 1 counts)) (base * n + x)) marks) at
      ∙ ap (λ (x : ℕ). note_all (box_cells (drop 1 ns) (entry (drop 1 firsts)) (entry (drop 1 counts)) (base * x + (entry firsts 0 + e) % x)) marks) en

  pub rows_done : (marks₀ marks : List ℕ) (e : ℕ) → Noted (box_row ns firsts counts base) marks₀ marks e → e ≡ entry counts 0
      → marks ≡ note_all (box_cells ns (entry firsts) (entry counts) base) marks₀
  rows_done marks₀ marks e t m =
      noted_done _ marks₀ marks e (entry counts 0) t m
      ∙ ap (λ (cs : List ℕ). note_all cs marks₀) (sym (box_rows ns firsts counts base s.some_dims s.firsts_fit s.counts_fit))

-- no more coordinates than there are, in the other dimensions
pub rest_fit : {ns counts : List ℕ} → CountsWithin ns counts → CountsWithin (rest_of ns) (rest_of counts)
rest_fit {ns} {counts} f =
    rw (part_to_end ns 1, part_to_end counts 1)
    (record { each = λ k h. rw (get_or-drop 1 counts k 0, get_or-drop 1 ns k 0) (f.each (1 + k) (omega (arith, length-drop 1 ns))) })
