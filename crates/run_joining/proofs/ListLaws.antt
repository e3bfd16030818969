-- Two value lists of calls of which one ends and one begins at a time: the joined list passes, and sets what the two set.
use mathlib.Core.Path.{◌≡◌, refl, sym, ap, ◌∙◌, subst}
use mathlib.Core.Logic.{◌⊎◌, inl, inr}
use mathlib.Core.Bool.{Bool, true, false, not}
use mathlib.Core.List.{List, [], ◌∷◌, ◌++◌}
use mathlib.Core.Option.{Option, some, none}
use Prim.Native.Nat.{ℕ, suc, ◌≤◌, ◌<◌}
use native.Mathlib.Omega.{arith}
use lib.Dec.{eqb, ltb}
use lib.IntN.{ℤ}
use borrow.Author.Tests.{ltb-true, ltb-false, lt-ltb, le-ltb, eqb-true, ne_eqb}
use Rattle.std.specs.Prelude.{if◌then◌else◌}
use Rattle.value.proofs.Theorems.Laws.{never, and_both}
use Rattle.automaton.proofs.Theorems.Blocks.{Joined}
use Rattle.list_meaning.specs.Lines.{Said, bad, time, cell}
use Rattle.list_meaning.specs.ListChecking.{Limits, rises, time_number, cell_line_number, line_number, time_behind, check_lines}
use Rattle.list_meaning.specs.Setting.{set_lines}
use Rattle.list_meaning.specs.Promises.Passing.{LinePasses, last_time, left_within}
use Rattle.list_meaning.proofs.Passing.{passes_first, rises_told, starts_told, none_behind, set_joined}
use Rattle.run_joining.specs.Joins.{times_in, rising}

-- ---- times

-- a right time is not past the end
ends_told : (q : Limits) (before : Option ℕ) (t : ℕ) → time_number q before t ≡ 0 → t ≤ q.last
unfolding time_number
ends_told q before t h = by (rises before t) (ltb t q.first) (ltb q.last t) refl h
  where
    by : (r s u : Bool) → ltb q.last t ≡ u → ◌≡◌ {A = ℕ} (if not r then 54 else if s then 55 else if u then 56 else 0) 0 → t ≤ q.last
    by false s u e h = absurd (omega arith)
    by true true u e h = absurd (omega arith)
    by true false true e h = absurd (omega arith)
    by true false false e h = ltb-false q.last t e

rises_of : (q : Limits) (before : Option ℕ) (t : ℕ) → time_number q before t ≡ 0 → rises before t ≡ true
unfolding time_number
rises_of q before t h = by (rises before t) h
  where
    by : (r : Bool) → ◌≡◌ {A = ℕ} (if not r then 54 else if ltb t q.first then 55 else if ltb q.last t then 56 else 0) 0 → r ≡ true
    by true h = refl
    by false h = absurd (omega arith)

right_time : (q : Limits) (before : Option ℕ) (t : ℕ) → rises before t ≡ true → q.first ≤ t → t ≤ q.last → time_number q before t ≡ 0
unfolding time_number
right_time q before t r a b = rw (r, le-ltb t q.first a, le-ltb q.last t b)

-- the first time of lines rises behind a time
abbrev pub first_rises : Option ℕ → List Said → Bool
first_rises before [] = true
first_rises before (bad ∷ ss) = first_rises before ss
first_rises before (time t ∷ ss) = rises before t
first_rises before (cell is vs ∷ ss) = first_rises before ss

head_rises : (before : Option ℕ) (ys : List Said) → rising before (times_in ys) ≡ true → first_rises before ys ≡ true
unfolding times_in rising
head_rises before [] h = refl
head_rises before (bad ∷ ys) h = head_rises before ys h
head_rises before (time t ∷ ys) h = (and_both (rises before t) (rising (some t) (times_in ys)) h).0
head_rises before (cell is vs ∷ ys) h = head_rises before ys h

-- where joined times rise, those of the second list rise behind the last of the first
pub behind_rises : (before : Option ℕ) (xs ys : List Said) → rising before (times_in xs ++ times_in ys) ≡ true → first_rises (last_time before xs) ys ≡ true
unfolding times_in rising
behind_rises before [] ys h = head_rises before ys h
behind_rises before (bad ∷ xs) ys h = behind_rises before xs ys h
behind_rises before (time t ∷ xs) ys h = behind_rises (some t) xs ys (and_both (rises before t) (rising (some t) (times_in xs ++ times_in ys)) h).1
behind_rises before (cell is vs ∷ xs) ys h = behind_rises before xs ys h

-- ---- lines that pass, held against other limits

-- one line more that is right
passes_more : (q : Limits) (before : Option ℕ) (n : ℕ) (s : Said) (ss : List Said) → line_number q before s ≡ 0 → LinePasses q (time_behind before s) (suc n) ss → LinePasses q before n (s ∷ ss)
unfolding check_lines
passes_more q before n s ss e p = record { is = rw e p.is }

module _ (q q' : Limits) (sizes : q'.sizes ≡ q.sizes) (fields : q'.fields ≡ q.fields) (flag : q'.flag ≡ q.flag) (low : q'.first ≤ q.first) (high : q.last ≤ q'.last) where
  right_cell : (is : List ℕ) (vs : List (Option ℤ)) → cell_line_number q is vs ≡ 0 → cell_line_number q' is vs ≡ 0
  unfolding cell_line_number
  right_cell is vs h = rw (sizes, fields, flag) h

  right_line : (before : Option ℕ) (s : Said) → line_number q before s ≡ 0 → line_number q' before s ≡ 0
  right_line before bad h = h
  right_line before (time t) h =
      right_time q' before t (rises_of q before t h) (let a = starts_told q before t h in omega arith) (let b = ends_told q before t h in omega arith)
  right_line none (cell is vs) h = h
  right_line (some b) (cell is vs) h = right_cell is vs h

  -- they pass within wider limits, whatever the number of the first
  pub passes_wider : (before : Option ℕ) (n m : ℕ) (ss : List Said) → LinePasses q before n ss → LinePasses q' before m ss
  unfolding check_lines
  passes_wider before n m [] p = record { is = refl }
  passes_wider before n m (s ∷ ss) p =
      let h = passes_first q before n s ss p in
      passes_more q' before m s ss (right_line before s h.0) (passes_wider (time_behind before s) (suc n) (suc m) ss h.1)

-- and behind a time, if their first rises behind it
pub passes_after : (q : Limits) (b : Option ℕ) (n : ℕ) (ss : List Said) → LinePasses q none n ss → first_rises b ss ≡ true → LinePasses q b n ss
unfolding check_lines
passes_after q b n [] p e = record { is = refl }
passes_after q b n (bad ∷ ss) p e = absurd (let w = (passes_first q none n bad ss p).0 in omega arith)
passes_after q b n (time t ∷ ss) p e =
    let h = passes_first q none n (time t) ss p in
    passes_more q b n (time t) ss (right_time q b t e (starts_told q none t h.0) (ends_told q none t h.0)) h.1
passes_after q b n (cell is vs ∷ ss) p e = absurd (let w = (passes_first q none n (cell is vs) ss p).0 in omega arith)

-- ---- what lines set

module _ (q : Limits) (sizes : List ℕ) (fields : ℕ) where
  -- lines of which the first time is later set nothing
  pub none_yet : (ss : List Said) (n t : ℕ) → LinePasses q none n ss → first_rises (some t) ss ≡ true → (w : Bool) (g : List ℤ) → set_lines sizes fields t w g ss ≡ g
  unfolding set_lines
  none_yet [] n t p e w g = refl
  none_yet (bad ∷ ss) n t p e w g = absurd (let z = (passes_first q none n bad ss p).0 in omega arith)
  none_yet (time u ∷ ss) n t p e w g =
      let h = passes_first q none n (time u) ss p in
      let up = ltb-true t u e in
      ap (λ (x : Bool). set_lines sizes fields t x g ss) (ne_eqb u t (λ z. let k = z in omega arith)) ∙ none_behind q sizes fields ss u (suc n) t h.1 (omega arith) g
  none_yet (cell is vs ∷ ss) n t p e w g = absurd (let z = (passes_first q none n (cell is vs) ss p).0 in omega arith)

  -- a time before the start is one
  pub early : (ss : List Said) (n t : ℕ) → LinePasses q none n ss → t < q.first → first_rises (some t) ss ≡ true
  early [] n t p l = refl
  early (bad ∷ ss) n t p l = absurd (let z = (passes_first q none n bad ss p).0 in omega arith)
  early (time u ∷ ss) n t p l = lt-ltb t u (let a = starts_told q none u (passes_first q none n (time u) ss p).0 in omega arith)
  early (cell is vs ∷ ss) n t p l = absurd (let z = (passes_first q none n (cell is vs) ss p).0 in omega arith)

  -- whether a time is the last of lines
  abbrev is_last : Option ℕ → ℕ → Bool
  is_last none t = false
  is_last (some u) t = eqb u t

  -- lines whose times are not past a time, and the last of which is not that time, have no block of it
  pub not_there : (xs : List Said) (before : Option ℕ) (n t : ℕ) → LinePasses q before n xs → q.last ≤ t → is_last (last_time before xs) t ≡ false
      → (g : List ℤ) → (set_lines sizes fields t false g xs ≡ g) × (left_within t false xs ≡ false)
  unfolding set_lines
  not_there [] before n t p l e g = (refl, refl)
  not_there (bad ∷ xs) before n t p l e g = absurd (let z = (passes_first q before n bad xs p).0 in omega arith)
  not_there (time u ∷ xs) before n t p l e g = by (eqb u t) refl (not_there xs (some u) (suc n) t (passes_first q before n (time u) xs p).1 l e g)
    where
      h : (time_number q before u ≡ 0) × LinePasses q (some u) (suc n) xs
      h = passes_first q before n (time u) xs p

      stuck : eqb u t ≡ true → (xs : List Said) (n : ℕ) → LinePasses q (some u) n xs → is_last (last_time (some u) xs) t ≡ false → ⊥
      stuck f [] n k z = let w : ◌≡◌ {A = ℕ} 0 1 = never (sym z ∙ f) in omega arith
      stuck f (bad ∷ xs) n k z = let w = (passes_first q (some u) n bad xs k).0 in omega arith
      stuck f (time v ∷ xs) n k z =
          let a = (passes_first q (some u) n (time v) xs k).0 in
          let up = rises_told q u v a in
          let end = ends_told q (some u) v a in
          let same = eqb-true u t f in
          omega arith
      stuck f (cell is vs ∷ xs) n k z = stuck f xs (suc n) (passes_first q (some u) n (cell is vs) xs k).1 z

      by : (b : Bool) → eqb u t ≡ b → (set_lines sizes fields t false g xs ≡ g) × (left_within t false xs ≡ false)
          → (set_lines sizes fields t (eqb u t) g xs ≡ g) × (left_within t (eqb u t) xs ≡ false)
      by false f rest = (ap (λ (x : Bool). set_lines sizes fields t x g xs) f ∙ rest.0, ap (λ (x : Bool). left_within t x xs) f ∙ rest.1)
      by true f rest = absurd (stuck f xs (suc n) h.1 e)
  not_there (cell is vs ∷ xs) before n t p l e g = not_there xs before (suc n) t (passes_first q before n (cell is vs) xs p).1 l e g

  -- the last time of lines that pass is not past the end
  pub last_within : (xs : List Said) (before : Option ℕ) (n : ℕ) → LinePasses q before n xs → (t : ℕ) → q.last < t → is_last before t ≡ false → is_last (last_time before xs) t ≡ false
  last_within [] before n p t l e = e
  last_within (bad ∷ xs) before n p t l e = absurd (let z = (passes_first q before n bad xs p).0 in omega arith)
  last_within (time u ∷ xs) before n p t l e =
      let h = passes_first q before n (time u) xs p in
      let end = ends_told q before u h.0 in
      last_within xs (some u) (suc n) h.1 t l (ne_eqb u t (λ z. let k = z in omega arith))
  last_within (cell is vs ∷ xs) before n p t l e = last_within xs before (suc n) (passes_first q before n (cell is vs) xs p).1 t l e

-- ---- the joined list

-- the first list ends where the second begins
module _ (q r : Limits) (sizes : List ℕ) (fields : ℕ) (xs ys : List Said) (first : LinePasses q none 1 xs) (second : LinePasses r none 1 ys) (at : ℕ) (ends : q.last ≡ at) (begins : r.first ≡ at)
    (rise : first_rises (last_time none xs) ys ≡ true) where
  -- the blocks that two lists set, and those of the joined one
  pub lines_join : Joined (λ t g. set_lines sizes fields t false g xs) (λ t g. set_lines sizes fields t false g ys) (λ t g. set_lines sizes fields t false g (xs ++ ys)) at
  lines_join = record {
    before = λ t l g. set_joined sizes fields t false g xs ys ∙ none_yet r sizes fields ys 1 t second (early r sizes fields ys 1 t second (let b = begins in omega arith)) (left_within t false xs) _;
    behind = λ t l g. alone t (not_there q sizes fields xs none 1 t first (let e = ends in omega arith) (last_within q sizes fields xs none 1 first t (let e = ends in omega arith) refl) g) g;
    there = by (last_time none xs) refl;
  }
    where
      -- where the first list has no block of a time
      alone : (t : ℕ) {g : List ℤ} → (set_lines sizes fields t false g xs ≡ g) × (left_within t false xs ≡ false) → (h : List ℤ) → set_lines sizes fields t false g (xs ++ ys) ≡ set_lines sizes fields t false g ys
      alone t {g} e h =
          set_joined sizes fields t false g xs ys ∙ ap (λ (w : Bool). set_lines sizes fields t w (set_lines sizes fields t false g xs) ys) e.1
          ∙ ap (λ (x : List ℤ). set_lines sizes fields t false x ys) e.0

      none_there : is_last q sizes fields (last_time none xs) at ≡ false → (g : List ℤ) → (set_lines sizes fields at false g xs ≡ g) × (left_within at false xs ≡ false)
      none_there e g = not_there q sizes fields xs none 1 at first (let k = ends in omega arith) e g

      by : (o : Option ℕ) → last_time none xs ≡ o
          → (((g : List ℤ) → set_lines sizes fields at false g (xs ++ ys) ≡ set_lines sizes fields at false g xs) × ((g : List ℤ) → set_lines sizes fields at false g ys ≡ g))
          ⊎ (((g : List ℤ) → set_lines sizes fields at false g xs ≡ g) × ((g : List ℤ) → set_lines sizes fields at false g (xs ++ ys) ≡ set_lines sizes fields at false g ys))
      by none e =
          let shut : is_last q sizes fields (last_time none xs) at ≡ false = ap (λ (o : Option ℕ). is_last q sizes fields o at) e in
          inr (λ g. (none_there shut g).0, λ g. alone at (none_there shut g) g)
      by (some u) e = or (eqb u at) refl
        where
          or : (b : Bool) → eqb u at ≡ b
              → (((g : List ℤ) → set_lines sizes fields at false g (xs ++ ys) ≡ set_lines sizes fields at false g xs) × ((g : List ℤ) → set_lines sizes fields at false g ys ≡ g))
              ⊎ (((g : List ℤ) → set_lines sizes fields at false g xs ≡ g) × ((g : List ℤ) → set_lines sizes fields at false g (xs ++ ys) ≡ set_lines sizes fields at false g ys))
          or false f =
              let shut : is_last q sizes fields (last_time none xs) at ≡ false = ap (λ (o : Option ℕ). is_last q sizes fields o at) e ∙ f in
              inr (λ g. (none_there shut g).0, λ g. alone at (none_there shut g) g)
          or true f =
              let later : first_rises (some at) ys ≡ true = subst (λ (o : Option ℕ). first_rises o ys ≡ true) (e ∙ ap some (eqb-true u at f)) rise in
              inl (λ g. set_joined sizes fields at false g xs ys ∙ none_yet r sizes fields ys 1 at second later (left_within at false xs) _, λ g. none_yet r sizes fields ys 1 at second later false g)
