-- Lists of records: one list stored over the first records of another, and the records of the flat words.
use mathlib.Core.Path.{◌≡◌, refl, sym, ◌∙◌, ap, subst}
use Prim.Native.Nat.{ℕ, zero, suc, ◌+◌, ◌*◌, ◌≤◌, ◌<◌}
use native.Mathlib.Nat.{le_trans, le-suc, le_of_eq, zero-add, add-zero, add-suc, suc-add, not-suc-le-zero, le_of_suc-le-suc}
use mathlib.Core.List.{List, [], ◌∷◌, ◌++◌, append-nil}
use lib.ListN.{length, get_or, set, take, drop, replicate, length-set, drop_of_length-le}
use lib.Seq.{paste, paste-zero, paste-suc, take_all}
use Rattle.value.specs.Worked.{decode_of}
use Rattle.api_records.specs.declared.Name.{Name}
use Rattle.api_records.specs.Rows.{no_name, row_at, rows_from, rows_of}

-- ---- the list old with its first n records taken from rows, one by one
abbrev pub filled : List Name → List Name → ℕ → List Name
filled old rows zero = old
filled old rows (suc n) = set (filled old rows n) n (get_or rows n no_name)

filled_paste : (old rows : List Name) (n : ℕ) → n ≤ length old → n ≤ length rows → filled old rows n ≡ paste old 0 rows n
filled_paste old rows zero a b = paste-zero old 0 rows
filled_paste old rows (suc n) a b =
    ap (λ (l : List Name). set l n (get_or rows n no_name)) (filled_paste old rows n (le_trans (le-suc n) a) (le_trans (le-suc n) b))
    ∙ ap (λ (k : ℕ). set (paste old 0 rows n) k (get_or rows n no_name)) (sym (zero-add n))
    ∙ paste-suc old 0 rows n no_name (subst (λ (k : ℕ). k < length old) (sym (zero-add n)) a) b

pub filled_is : (old rows : List Name) (n : ℕ) → n ≤ length old → n ≤ length rows → filled old rows n ≡ take n rows ++ drop n old
filled_is old rows n a b = filled_paste old rows n a b ∙ ap (λ (k : ℕ). take n rows ++ drop k old) (zero-add n)

pub length_filled : (old rows : List Name) (n : ℕ) → length (filled old rows n) ≡ length old
length_filled old rows zero = refl
length_filled old rows (suc n) = length-set (filled old rows n) n (get_or rows n no_name) ∙ length_filled old rows n

-- all of it
pub filled_all : (old rows : List Name) (n : ℕ) → length old ≡ n → length rows ≡ n → take n rows ++ drop n old ≡ rows
filled_all old rows n a b =
    ap (λ (l : List Name). l ++ drop n old) (take_all n rows (le_of_eq b)) ∙ ap (λ (l : List Name). rows ++ l) (drop_of_length-le old (le_of_eq a)) ∙ append-nil rows

-- ---- the records of the flat words
length_from : (flat : List ℕ) (k n : ℕ) → length (rows_from flat k n) ≡ n
length_from flat k zero = refl
length_from flat k (suc n) = ap suc (length_from flat (suc k) n)

get_or_from : (flat : List ℕ) (j n k : ℕ) → k < n → get_or (rows_from flat j n) k no_name ≡ row_at flat (j + k)
get_or_from flat j zero k l = absurd (not-suc-le-zero l)
get_or_from flat j (suc n) zero l = ap (row_at flat) (sym (add-zero j))
get_or_from flat j (suc n) (suc k) l = get_or_from flat (suc j) n k (le_of_suc-le-suc l) ∙ ap (row_at flat) (suc-add j k ∙ sym (add-suc j k))

pub length_rows : (flat : List ℕ) → length (rows_of flat) ≡ 256
unfolding rows_of
length_rows flat = length_from flat 0 256

pub rows_at : (flat : List ℕ) (k : ℕ) → k < 256 → get_or (rows_of flat) k no_name ≡ row_at flat k
unfolding rows_of
rows_at flat k l = get_or_from flat 0 256 k l ∙ ap (row_at flat) (zero-add k)

-- a turn of the loop that makes them
pub next_row : (rows₀ rows : List Name) (flat : List ℕ) (k : ℕ) (r : Name) → k < 256 → rows ≡ filled rows₀ (rows_of flat) k → r ≡ row_at flat k
    → set rows k r ≡ filled rows₀ (rows_of flat) (suc k)
next_row rows₀ rows flat k r l e h = λ j. set (e j) k ((h ∙ sym (rows_at flat k l)) j)

-- and its end
pub all_rows : (rows₀ rows : List Name) (flat : List ℕ) (k : ℕ) → k ≡ 256 → length rows₀ ≡ 256 → rows ≡ filled rows₀ (rows_of flat) k → rows ≡ rows_of flat
all_rows rows₀ rows flat k n l e =
    e ∙ ap (filled rows₀ (rows_of flat)) n ∙ filled_is rows₀ (rows_of flat) 256 (le_of_eq (sym l)) (le_of_eq (sym (length_rows flat))) ∙ filled_all rows₀ (rows_of flat)
    256 l (length_rows flat)

-- past the end there is no name
pub past_end : (ns : List Name) (k : ℕ) → length ns ≤ k → no_name ≡ get_or ns k no_name
past_end [] k l = refl
past_end (n ∷ ns) zero l = absurd (not-suc-le-zero l)
past_end (n ∷ ns) (suc k) l = past_end ns k (le_of_suc-le-suc l)

-- ---- zero words are records where no name is declared
get_or_zeros : (n k : ℕ) → ◌≡◌ {A = ℕ} (get_or (replicate n 0) k 0) 0
get_or_zeros zero k = refl
get_or_zeros (suc n) zero = refl
get_or_zeros (suc n) (suc k) = get_or_zeros n k

zero_row : (n k : ℕ) → row_at (replicate n 0) k ≡ no_name
zero_row n k =
    λ i. record {
      start = get_or_zeros n (4 * k) i;
      length = get_or_zeros n (4 * k + 1) i;
      kind = get_or_zeros n (4 * k + 2) i;
      value = decode_of (get_or_zeros n (4 * k + 3) i);
    }

zero_rows : (n k m : ℕ) → rows_from (replicate n 0) k m ≡ replicate m no_name
zero_rows n k zero = refl
zero_rows n k (suc m) = λ i. zero_row n k i ∷ zero_rows n (suc k) m i

pub rows_of_zeros : (n : ℕ) → rows_of (replicate n 0) ≡ replicate 256 no_name
unfolding rows_of
rows_of_zeros n = zero_rows n 0 256
