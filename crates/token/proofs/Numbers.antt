-- The kinds of bytes and their numbers.
use mathlib.Core.Path.{◌≡◌, refl, sym, ap, ◌∙◌}
use mathlib.Core.Bool.{Bool, true, false}
use Prim.Native.Nat.{ℕ}
use lib.Dec.{eqb}
use denote.Enum.Bare.{sameb, same_true, same_false}
use borrow.Author.Tests.{ne_eqb}
use Rattle.std.specs.Prelude.{if◌then◌else◌}
use Rattle.token.specs.contracts.bytes.ByteKind.{the_type}
use Rattle.token.specs.declared.bytes.ByteKind.{ByteKind}
use Rattle.token.specs.declared.bytes.ByteKind.TheVariants.{Other, Blank, LineEnd, Letter, Digit, Underscore, Comment, Sign, End}
use Rattle.token.specs.Promises.Promises.{kind_number}

-- the kind with a number
abbrev with_number : ℕ → ByteKind
with_number n =
    if eqb n 1 then Blank else if eqb n 2 then LineEnd else if eqb n 3 then Letter else if eqb n 4 then Digit
    else if eqb n 5 then Underscore else if eqb n 6 then Comment else if eqb n 7 then Sign else if eqb n 8 then End else Other

again : (k : ByteKind) → with_number (kind_number k) ≡ k
again Other = refl
again Blank = refl
again LineEnd = refl
again Letter = refl
again Digit = refl
again Underscore = refl
again Comment = refl
again Sign = refl
again End = refl

-- kinds that differ have numbers that differ
pub apart : (j k : ByteKind) → (j ≡ k → ⊥) → kind_number j ≡ kind_number k → ⊥
apart j k d e = d (sym (again j) ∙ ap with_number e ∙ again k)

pub apart_eqb : (j k : ByteKind) → (j ≡ k → ⊥) → eqb (kind_number j) (kind_number k) ≡ false
apart_eqb j k d = ne_eqb (kind_number j) (kind_number k) (apart j k d)

-- ---- `==` of two kinds

module _ {b : Bool} {j k : ByteKind} (e : b ≡ sameb the_type j k) where
  pub is_kind : b ≡ true → j ≡ k
  is_kind q = same_true the_type tt j k (sym e ∙ q)

  pub no_kind : b ≡ false → j ≡ k → ⊥
  no_kind q = same_false the_type j k (sym e ∙ q)
