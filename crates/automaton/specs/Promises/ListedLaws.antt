-- Laws of the list of a function's values, and a loop that stores one value a turn.
use Prim.Native.Nat.{ℕ, zero, suc, ◌<◌}
use Rattle.std.proofs.Math.Nat.{le_refl, le-suc, le_trans}
use Rattle.std.proofs.Common.{le_of_suc-le-suc, not-suc-le-zero, eq-or-lt_of_le, arith, ◌∙◌, subst, inl, inr, length-set, get_or-set_same, get_or-set_other, ext_get_or}
use Rattle.std.specs.Prelude.{◌≡◌, ◌⊎◌, length, set}
use Rattle.std.proofs.Math.Path.{refl, sym, ap, ap₂}
use mathlib.Core.List.Memᴰ
use mathlib.Core.List.{List, [], ◌∷◌, ◌++◌, Memᴰ}
use Rattle.std.proofs.Math.ListN.{get_or, length-append, get_or-append}
use Rattle.std.proofs.Math.Seq.{get_or_at}
use Rattle.automaton.specs.Listed.{list_of}

-- a number below n + 1 is n, or below n
pub last_or_below : {c n : ℕ} → c < suc n → (c ≡ n) ⊎ (c < n)
last_or_below h = eq-or-lt_of_le (le_of_suc-le-suc h)

module _ {A : Type 0} where
  pub length_list_of : (f : ℕ → A) (n : ℕ) → length (list_of f n) ≡ n
  unfolding list_of
  length_list_of f zero = refl
  length_list_of f (suc n) = omega (arith, length-append (list_of f n) (f n ∷ []), length_list_of f n)

  pub get_or_list_of : (f : ℕ → A) (n c : ℕ) (d : A) → c < n → get_or (list_of f n) c d ≡ f c
  unfolding list_of
  get_or_list_of f zero c d l = absurd (not-suc-le-zero l)
  get_or_list_of f (suc n) c d l = go (get_or_list_of f n c d) (last_or_below l)
    where
      go : (c < n → get_or (list_of f n) c d ≡ f c) → (c ≡ n) ⊎ (c < n) → get_or (list_of f (suc n)) c d ≡ f c
      go below (inl q) = get_or_at (list_of f n) (f n) [] d c (length_list_of f n ∙ sym q) ∙ ap f (sym q)
      go below (inr q) = get_or-append (list_of f n) (f n ∷ []) d c (subst (λ (m : ℕ). c < m) (sym (length_list_of f n)) q) ∙ below q

  pub list_of_ext : (f f' : ℕ → A) (n : ℕ) → ((c : ℕ) → c < n → f c ≡ f' c) → list_of f n ≡ list_of f' n
  unfolding list_of
  list_of_ext f f' zero h = refl
  list_of_ext f f' (suc n) h =
      ap₂ (λ (l : List A) (a : A). l ++ (a ∷ [])) (list_of_ext f f' n (λ c l. h c (le_trans l (le-suc n)))) (h n (le_refl (suc n)))

  -- what is in the list: the values, and nothing else
  pub mem_list_of : (f : ℕ → A) (n e : ℕ) → e < n → Memᴰ (f e) (list_of f n)
  unfolding list_of
  mem_list_of f zero e l = absurd (not-suc-le-zero l)
  mem_list_of f (suc n) e l = go (mem_list_of f n e) (last_or_below l)
    where
      go : (e < n → Memᴰ (f e) (list_of f n)) → (e ≡ n) ⊎ (e < n) → Memᴰ (f e) (list_of f (suc n))
      go below (inl q) = Memᴰ.append_right (list_of f n) (Memᴰ.head (ap f q))
      go below (inr q) = Memᴰ.append_left (f n ∷ []) (below q)

  pub of_mem_list_of : (f : ℕ → A) (n : ℕ) (a : A) → Memᴰ a (list_of f n) → (e : ℕ) × (e < n) × (a ≡ f e)
  unfolding list_of
  of_mem_list_of f zero a m = absurd (Memᴰ.not-nil m)
  of_mem_list_of f (suc n) a m = go (of_mem_list_of f n a) (Memᴰ.append_cases (list_of f n) m)
    where
      go : (Memᴰ a (list_of f n) → (e : ℕ) × (e < n) × (a ≡ f e)) → Memᴰ a (list_of f n) ⊎ Memᴰ a (f n ∷ []) → (e : ℕ) × (e < suc n) × (a ≡ f e)
      go below (inl q) = let r = below q in (r.0, le_trans r.1 (le-suc n), r.2)
      go below (inr q) = (n, le_refl (suc n), Memᴰ.eq_of_singleton q)

-- The first i of n entries are made.
pub record Made {A : Type 0} (f : ℕ → A) (d : A) (n : ℕ) (xs : List A) (i : ℕ) : Type 0 where
  pub len : length xs ≡ n
  pub below : (k : ℕ) → k < i → get_or xs k d ≡ f k

module _ {A : Type 0} (f : ℕ → A) (d : A) (n : ℕ) where
  pub made_start : (xs : List A) → length xs ≡ n → Made f d n xs 0
  made_start xs e = record { len = e; below = λ k l. absurd (not-suc-le-zero l) }

  pub made_go : (xs xs' : List A) (i : ℕ) → Made f d n xs i → i < n → xs' ≡ set xs i (f i) → Made f d n xs' (suc i)
  made_go xs xs' i m l e = record { len = ap length e ∙ length-set xs i (f i) ∙ m.len; below = λ k lk. at k (last_or_below lk) }
    where
      at : (k : ℕ) → (k ≡ i) ⊎ (k < i) → get_or xs' k d ≡ f k
      at k (inl q) =
          ap (λ (z : List A). get_or z k d) e ∙ ap (λ (x : ℕ). get_or (set xs i (f i)) x d) q
          ∙ get_or-set_same xs i (f i) d (subst (λ (x : ℕ). i < x) (sym m.len) l) ∙ ap f (sym q)
      at k (inr q) = ap (λ (z : List A). get_or z k d) e ∙ get_or-set_other xs i k (f i) d (λ r. absurd (let w = r in omega arith)) ∙ m.below k q

  pub made_done : (xs : List A) → Made f d n xs n → xs ≡ list_of f n
  made_done xs m =
      ext_get_or d xs (list_of f n) (m.len ∙ sym (length_list_of f n))
      (λ k l. let lk : k < n = rw m.len at l in m.below k lk ∙ sym (get_or_list_of f n k d lk))
