-- A cell's values as they are written, where a flag that is 0 is missing.
use Rattle.std.specs.Prelude.{ℕ, zero, suc, ◌+◌, ◌<◌, ◌≡◌, refl, Bool, true, false, ◌&&◌, List, [], ◌∷◌, map, length, get_or, set, eqb, ℤ, pos, if◌then◌else◌}
use Rattle.std.proofs.Common.{arith, sym, ap, ◌∙◌, get_or-set_other, ne_eqb}
use Rattle.std.proofs.Math.Option.{Option, some, none}
use Rattle.std.proofs.lemmas.List.{length-map}
use Rattle.std.proofs.Math.Dec.{eqb-suc-suc}
use Rattle.value.specs.Number.{eq_z}
use Rattle.value.proofs.Theorems.Laws.{and_both, eq_z_true}
use Rattle.program.specs.Syntax.{Range}
use Rattle.cell_meaning.specs.Evaluation.{in_field}
use Rattle.list_meaning.specs.ListChecking.{value_fits, all_fit, is_zero, clears}
use Rattle.list_meaning.specs.Setting.{store_values}
use Rattle.list_meaning.specs.Writing.{shown}
use Rattle.list_meaning.specs.Promises.Rereading.{All, Writable, WritableField}

-- there are as many as values
pub length_shown : (flag : Option ℕ) (zs : List ℤ) → length (shown flag zs) ≡ length zs
length_shown none zs = length-map zs some
length_shown (some f) [] = refl
length_shown (some zero) (z ∷ zs) = ap suc (length-map zs some)
length_shown (some (suc f)) (z ∷ zs) = ap suc (length_shown (some f) zs)

-- each can be written if the value can
pub writable_shown : (flag : Option ℕ) (zs : List ℤ) → All Writable zs → All WritableField (shown flag zs)
writable_shown none [] h = tt
writable_shown none (z ∷ zs) h = (h.0, writable_shown none zs h.1)
writable_shown (some f) [] h = tt
writable_shown (some zero) (z ∷ zs) h = (by (eq_z z (pos 0)), writable_shown none zs h.1)
  where
    by : (t : Bool) → WritableField (if t then none else some z)
    by true = tt
    by false = h.0
writable_shown (some (suc f)) (z ∷ zs) h = (h.0, writable_shown (some f) zs h.1)

-- each is in the range of its field if the value is
pub fit_shown : (flag : Option ℕ) (rs : List Range) (zs : List ℤ) → all_fit rs (map some zs) ≡ true → all_fit rs (shown flag zs) ≡ true
unfolding all_fit
fit_shown none rs zs h = h
fit_shown (some f) rs [] h = refl
fit_shown (some zero) [] (z ∷ zs) h = refl
fit_shown (some (suc f)) [] (z ∷ zs) h = refl
fit_shown (some zero) (r ∷ rs) (z ∷ zs) h = by (eq_z z (pos 0))
  where
    both : (in_field r z ≡ true) × (all_fit rs (map some zs) ≡ true)
    both = and_both (in_field r z) (all_fit rs (map some zs)) h

    by : (t : Bool) → (value_fits r (if t then none else some z) && all_fit rs (map some zs)) ≡ true
    by true = both.1
    by false = h
fit_shown (some (suc f)) (r ∷ rs) (z ∷ zs) h =
    let both = and_both (in_field r z) (all_fit rs (map some zs)) h in
    rw both.0 (fit_shown (some f) rs zs both.1)

-- they never give the flag 0
pub kept_shown : (flag : Option ℕ) (zs : List ℤ) → clears flag (shown flag zs) ≡ false
kept_shown none zs = refl
kept_shown (some f) [] = refl
kept_shown (some zero) (z ∷ zs) = by (eq_z z (pos 0)) refl
  where
    by : (t : Bool) → eq_z z (pos 0) ≡ t → is_zero (if t then none else some z) ≡ false
    by true e = refl
    by false e = e
kept_shown (some (suc f)) (z ∷ zs) = kept_shown (some f) zs

-- ---- one value

-- a field's value as it is written: a flag that is 0 is missing
abbrev pub field_shown : Bool → ℤ → Option ℤ
field_shown flag z = if flag && eq_z z (pos 0) then none else some z

given_at : (zs : List ℤ) (k : ℕ) → k < length zs → get_or (map some zs) k none ≡ some (get_or zs k (pos 0))
given_at [] k l = absurd (omega arith)
given_at (z ∷ zs) zero l = refl
given_at (z ∷ zs) (suc k) l = given_at zs k (omega arith)

pub shown_at : (f : ℕ) (zs : List ℤ) (k : ℕ) → k < length zs → get_or (shown (some f) zs) k none ≡ field_shown (eqb k f) (get_or zs k (pos 0))
shown_at f [] k l = absurd (omega arith)
shown_at zero (z ∷ zs) zero l = refl
shown_at zero (z ∷ zs) (suc k) l =
    given_at zs k (omega arith) ∙ ap (λ (t : Bool). field_shown t (get_or zs k (pos 0))) (sym (ne_eqb (suc k) 0 (λ e. let w = e in omega arith)))
shown_at (suc f) (z ∷ zs) zero l = ap (λ (t : Bool). field_shown t z) (sym (ne_eqb 0 (suc f) (λ e. let w = e in omega arith)))
shown_at (suc f) (z ∷ zs) (suc k) l = shown_at f zs k (omega arith) ∙ ap (λ (t : Bool). field_shown t (get_or zs k (pos 0))) (sym (eqb-suc-suc k f))

-- ---- what they set

set_same : (g : List ℤ) (e : ℕ) (z : ℤ) → get_or g e (pos 0) ≡ z → set g e z ≡ g
set_same [] e z q = refl
set_same (x ∷ g) zero z q = ap (λ (y : ℤ). y ∷ g) (sym q)
set_same (x ∷ g) (suc e) z q = ap (λ (y : List ℤ). x ∷ y) (set_same g e z q)

-- a flag among the values that is 0 is 0 in the grid too, from entry e on
abbrev pub ZeroToo : Option ℕ → List ℤ → List ℤ → ℕ → Type 0
ZeroToo none zs g e = Unit {0}
ZeroToo (some f) zs g e = f < length zs → get_or zs f (pos 0) ≡ pos 0 → get_or g (e + f) (pos 0) ≡ pos 0

-- then setting what is shown is setting all values
pub store_shown : (flag : Option ℕ) (zs g : List ℤ) (e : ℕ) → ZeroToo flag zs g e → store_values g e (shown flag zs) ≡ store_values g e (map some zs)
unfolding store_values
store_shown none zs g e h = refl
store_shown (some f) [] g e h = refl
store_shown (some zero) (z ∷ zs) g e h = by (eq_z z (pos 0)) refl
  where
    by : (t : Bool) → eq_z z (pos 0) ≡ t → store_values g e ((if t then none else some z) ∷ map some zs) ≡ store_values g e (some z ∷ map some zs)
    by true q =
        let zero_is : z ≡ pos 0 = eq_z_true z (pos 0) q in
        let old : get_or g e (pos 0) ≡ z = ap (λ (k : ℕ). get_or g k (pos 0)) (let w : e ≡ e + 0 = omega arith in w) ∙ h (omega arith) zero_is ∙ sym zero_is in
        ap (λ (x : List ℤ). store_values x (suc e) (map some zs)) (sym (set_same g e z old))
    by false q = refl
store_shown (some (suc f)) (z ∷ zs) g e h =
    store_shown (some f) zs (set g e z) (suc e)
    (λ m q.
    get_or-set_other g e (suc e + f) z (pos 0) (λ r. absurd (omega (arith, r)))
    ∙ ap (λ (k : ℕ). get_or g k (pos 0)) (let w : suc e + f ≡ e + suc f = omega arith in w) ∙ h (omega arith) q)
