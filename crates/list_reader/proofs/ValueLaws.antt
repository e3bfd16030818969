-- Reading values: one law for each way through the code.
use mathlib.Core.Path.{◌≡◌, refl, sym, ap, ap₂, ◌∙◌, subst}
use mathlib.Core.Bool.{Bool, true, false, not, ◌&&◌, ◌||◌}
use mathlib.Core.List.{List, [], ◌∷◌}
use mathlib.Core.Option.{Option, some, none}
use Prim.Native.Nat.{ℕ, suc, ◌+◌, ◌≤◌, ◌<◌}
use native.Mathlib.Omega.{arith}
use native.Mathlib.Numerals.{add-one}
use lib.ListN.{length, drop, get_or, drop_of_length-le}
use lib.Seq.{drop-cons}
use lib.IntN.{ℤ, pos}
use lib.Dec.{ltb}
use borrow.Author.Tests.{ne_eqb, lt-ltb, le-ltb, ltb-true, ltb-false}
use Rattle.std.specs.Prelude.{if◌then◌else◌}
use Rattle.value.specs.Number.{within}
use Rattle.value.specs.Worked.{value, decode_of}
use Rattle.value.specs.declared.Value.{Value}
use Rattle.automaton.specs.Promises.ListedLaws.{length_list_of, get_or_list_of}
use Rattle.program.specs.Syntax.{Range, no_range}
use Rattle.program.specs.declared.Rule.{Rule}
use Rattle.cell_meaning.specs.Evaluation.{in_field}
use Rattle.cell_meaning.specs.Promises.Stands.{rule_table, range_in}
use Rattle.token.specs.Promises.Promises.{too_large}
use Rattle.list_meaning.specs.Text.{Piece, literal, sign, with_piece, pieces}
use Rattle.list_meaning.specs.Lines.{before_values, plus_or_minus, signed, values, behind}
use Rattle.list_meaning.specs.ListChecking.{value_fits, all_fit}
use Rattle.list_meaning.specs.Promises.Walking.{head_fits, none_left, rest_of, keeps_flag, values_number}
use Rattle.list_meaning.proofs.Walking.{one_value}
use Rattle.std.proofs.Common.{Bor, Option as Optional, Some, None}
use Rattle.list_reader.specs.declared.Lexed.{Lexed}
use Rattle.list_reader.specs.declared.Lexed.TheVariants.{Literal, Sign, End}
use Rattle.list_reader.specs.Promises.Promises.{IsEnd, NoLiteral, Lexes, ReadsLiteral}
use Rattle.list_reader.proofs.Walks.{end_behind}
use Rattle.list_reader.specs.declared.values.Valued.{Valued}
use Rattle.list_reader.specs.Promises.Values.{line_values, under_in, behind_in, given_of, further, valued_of, RestOnward, ValuedOnward, ReadsSigned, ReadsBehind, ReadsValue, fields_in, count_number, StillFits, StillKept, ReadsValues}

-- ---- the grammar, by the first token

under_none : (k : ℕ) (o : Option (List Piece)) → plus_or_minus k ≡ false → (n : ℕ) → under_in k (with_piece (literal n) o) ≡ none
unfolding values
under_none k none e n = refl
under_none k (some ps) e n = rw e

under_some : (k : ℕ) (o : Option (List Piece)) → plus_or_minus k ≡ true → (n : ℕ) → under_in k (with_piece (literal n) o) ≡ behind_in (some (signed k n)) o
unfolding values
under_some k none e n = refl
under_some k (some ps) e n = rw e

under_other : (k : ℕ) (o : Option (List Piece)) → NoLiteral o → under_in k o ≡ none
unfolding values
under_other k none h = refl
under_other k (some []) h = refl
under_other k (some (literal n ∷ ps)) h = absurd h
under_other k (some (sign b ∷ ps)) h = refl

behind_two : (v : Option ℤ) (n : ℕ) (o : Option (List Piece)) → behind_in v (with_piece (literal n) o) ≡ none
unfolding values
behind_two v n none = refl
behind_two v n (some ps) = refl

behind_comma : (v : Option ℤ) (o : Option (List Piece)) → behind_in v (with_piece (sign 44) o) ≡ before_values v (line_values o)
unfolding values
behind_comma v none = refl
behind_comma v (some ps) = refl

behind_other : (v : Option ℤ) (k : ℕ) (o : Option (List Piece)) → (k ≡ 44 → ⊥) → behind_in v (with_piece (sign k) o) ≡ none
unfolding values
behind_other v k none d = refl
behind_other v k (some ps) d = rw (ne_eqb k 44 d)

behind_last : (v : Option ℤ) → behind v [] ≡ before_values v (some [])
unfolding values
behind_last v = refl

values_literal : (n : ℕ) (o : Option (List Piece)) → line_values (with_piece (literal n) o) ≡ behind_in (some (pos n)) o
unfolding values
values_literal n none = refl
values_literal n (some ps) = refl

values_comma : (o : Option (List Piece)) → line_values (with_piece (sign 44) o) ≡ before_values none (line_values o)
unfolding values
values_comma none = refl
values_comma (some ps) = refl

values_sign : (k : ℕ) (o : Option (List Piece)) → (k ≡ 44 → ⊥) → line_values (with_piece (sign k) o) ≡ under_in k o
unfolding values
values_sign k none d = refl
values_sign k (some ps) d = rw (ne_eqb k 44 d)

values_end : values [] ≡ before_values none (some [])
unfolding values
values_end = refl

-- ---- a literal under a sign

module _ (line : List ℕ) (k : ℕ) where
  pub signed_none : ReadsLiteral line None → ReadsSigned line k None
  signed_none w = record { is = under_other k (pieces 0 line) w.is; onward = tt }

  module _ {n : ℕ} {rest : Bor (List ℕ)} (w : ReadsLiteral line (Some (n, rest))) {t : Bool} (s : t ≡ plus_or_minus k) where
    pub signed_bad : t ≡ false → ReadsSigned line k None
    signed_bad f = record { is = ap (under_in k) w.is.0 ∙ under_none k (pieces 0 rest.now) (sym s ∙ f) n; onward = tt }

    pub signed_number : {v : Value} → t ≡ true → v ≡ value (signed k n) → ReadsSigned line k (Some (v, rest))
    signed_number {v} f g =
        record {
          is = ap (under_in k) w.is.0 ∙ under_some k (pieces 0 rest.now) (sym s ∙ f) n ∙ ap (λ (y : Value). behind_in (some y.n) (pieces 0 rest.now)) (sym g);
          onward = w.onward;
        }

pub literal_small : (line : List ℕ) {n : ℕ} {rest : Bor (List ℕ)} → ReadsLiteral line (Some (n, rest)) → n < too_large
literal_small line w = w.is.1

pub ruleset SignedWays = (literal_small, signed_none, signed_bad, signed_number)

-- ---- behind a value

module _ (line : List ℕ) (v : Optional Value) where
  pub behind_unread : Lexes line None → ReadsBehind line v None
  behind_unread w = record { is = ap (behind_in (given_of v)) w.is; onward = tt }

  module _ {x : Lexed} (w : Lexes line (Some x)) where
    here : {y : Lexed} → x ≡ y → Lexes line (Some y)
    here e = subst (λ (z : Lexed). Lexes line (Some z)) e w

    pub behind_literal : {n : ℕ} {rest : Bor (List ℕ)} → x ≡ Literal n rest → ReadsBehind line v None
    behind_literal {n} {rest} e = record { is = ap (behind_in (given_of v)) (here e).is ∙ behind_two (given_of v) n (pieces 0 rest.now); onward = tt }

    pub behind_end : x ≡ End → ReadsBehind line v (Some (record { given = v; next = None }))
    behind_end e = record { is = ap (behind_in (given_of v)) (here e).is ∙ behind_last (given_of v); onward = tt }

    module _ {b : ℕ} {rest : Bor (List ℕ)} (e : x ≡ Sign b rest) where
      pub behind_wrong : (b ≡ 44 → ⊥) → ReadsBehind line v None
      behind_wrong d = record { is = ap (behind_in (given_of v)) (here e).is ∙ behind_other (given_of v) b (pieces 0 rest.now) d; onward = tt }

      pub behind_more : b ≡ 44 → ReadsBehind line v (Some (record { given = v; next = Some rest }))
      behind_more d =
          record {
            is = ap (behind_in (given_of v)) (here e).is ∙ ap (λ (y : ℕ). behind_in (given_of v) (with_piece (sign y) (pieces 0 rest.now))) d ∙ behind_comma (given_of v) (pieces 0 rest.now);
            onward = (here e).onward;
          }

pub ruleset BehindWays = (behind_unread, behind_literal, behind_end, behind_wrong, behind_more)

-- ---- a value

rest_from : (line rest : List ℕ) → length rest < length line → IsEnd line rest → (y : Optional (Bor (List ℕ))) → RestOnward rest y → RestOnward line y
rest_from line rest l t None h = tt
rest_from line rest l t (Some next) h = (let w = h.0 in omega arith, end_behind line rest next.now t h.1)

onward_from : (line rest : List ℕ) → length rest < length line → IsEnd line rest → (y : Optional Valued) → ValuedOnward rest y → ValuedOnward line y
onward_from line rest l t None h = tt
onward_from line rest l t (Some v) h = rest_from line rest l t v.next h

module _ (line : List ℕ) where
  pub value_unread : Lexes line None → ReadsValue line None
  value_unread w = record { is = ap line_values w.is; onward = tt }

  module _ {x : Lexed} (w : Lexes line (Some x)) where
    it : {y : Lexed} → x ≡ y → Lexes line (Some y)
    it e = subst (λ (z : Lexed). Lexes line (Some z)) e w

    pub value_end : x ≡ End → ReadsValue line (Some (record { given = None; next = None }))
    value_end e = record { is = ap line_values (it e).is ∙ values_end; onward = tt }

    pub value_literal : {n : ℕ} {rest : Bor (List ℕ)} {v : Value} {y : Optional Valued} → x ≡ Literal n rest → v ≡ value (decode_of n) → ReadsBehind rest.now (Some v) y → ReadsValue line y
    value_literal {n} {rest} {v} {y} e f h =
        let o = (it e).onward in
        let p : value (decode_of n) ≡ value (pos n) = rw (lt-ltb n 2147483648 o.1) in
        record {
          is = ap line_values (it e).is ∙ values_literal n (pieces 0 rest.now) ∙ ap (λ (z : Value). behind_in (some z.n) (pieces 0 rest.now)) (sym (f ∙ p)) ∙ h.is;
          onward = onward_from line rest.now o.0 o.2 y h.onward;
        }

    module _ {b : ℕ} {rest : Bor (List ℕ)} (e : x ≡ Sign b rest) where
      pub value_missing : b ≡ 44 → ReadsValue line (Some (record { given = None; next = Some rest }))
      value_missing d =
          record {
            is = ap line_values (it e).is ∙ ap (λ (y : ℕ). line_values (with_piece (sign y) (pieces 0 rest.now))) d ∙ values_comma (pieces 0 rest.now);
            onward = (it e).onward;
          }

      module _ (d : b ≡ 44 → ⊥) where
        signs : line_values (pieces 0 line) ≡ under_in b (pieces 0 rest.now)
        signs = ap line_values (it e).is ∙ values_sign b (pieces 0 rest.now) d

        pub value_bad : ReadsSigned rest.now b None → ReadsValue line None
        value_bad h = record { is = signs ∙ h.is; onward = tt }

        pub value_signed : {v : Value} {past : Bor (List ℕ)} {y : Optional Valued} → ReadsSigned rest.now b (Some (v, past)) → ReadsBehind past.now (Some v) y → ReadsValue line y
        value_signed {y = y} h g =
            record { is = signs ∙ h.is ∙ g.is; onward = onward_from line _ (let a = (it e).onward.0 in let c = h.onward.0 in omega arith) (end_behind line rest.now _ (it e).onward.1 h.onward.1) y g.onward }

pub ruleset ValueWays = (value_unread, value_end, value_literal, value_missing, value_bad, value_signed)

-- ---- a value against its field

pub field_known : (words : List ℕ) (rule : Rule) (f : ℕ) (v : Value) {a b : ℕ} {low high : Value} {r : Bool} → f < rule.fields
    → a ≡ (rule_table words rule).word2 (rule.base + f) → low ≡ value (decode_of a) → b ≡ (rule_table words rule).word3 (rule.base + f) → high ≡ value (decode_of b)
    → r ≡ within low.n high.n v.n → r ≡ in_field (get_or (fields_in words rule) f no_range) v.n
unfolding fields_in
field_known words rule f v l ea el eb eh er =
    er ∙ ap₂ (λ (x y : Value). within x.n y.n v.n) (el ∙ ap (λ (i : ℕ). value (decode_of i)) ea) (eh ∙ ap (λ (i : ℕ). value (decode_of i)) eb)
    ∙ sym (ap (λ (x : Range). in_field x v.n) (get_or_list_of (λ k. range_in (rule_table words rule) (rule.base + k)) rule.fields f no_range l))

pub fields_length : (words : List ℕ) (rule : Rule) → length (fields_in words rule) ≡ rule.fields
unfolding fields_in
fields_length words rule = length_list_of (λ k. range_in (rule_table words rule) (rule.base + k)) rule.fields

field_at : (fs : List Range) (k : ℕ) → k < length fs → drop k fs ≡ get_or fs k no_range ∷ drop (k + 1) fs
field_at fs k l = rw (add-one, drop-cons fs k no_range)

module _ (words : List ℕ) (rule : Rule) (k : ℕ) (fit : Bool) where
  pub still_past : {v : Optional Value} → fit ≡ true → rule.fields ≤ k → StillFits (fields_in words rule) k v fit true
  still_past {v} e l =
      record { is = sym (ap₂ (λ (b : Bool) (rs : List Range). b && head_fits rs (given_of v)) e (drop_of_length-le (fields_in words rule) (let n = fields_length words rule in let h : length (fields_in words rule) ≤ k = omega arith in h))) }

  pub still_number : {v : Optional Value} {z : Value} {r : Bool} → fit ≡ true → v ≡ Some z → k < rule.fields → r ≡ in_field (get_or (fields_in words rule) k no_range) z.n → StillFits (fields_in words rule) k v fit r
  still_number {v} {z} {r} e q l h =
      record {
        is = h ∙ sym (ap₂ (λ (b : Bool) (rs : List Range). b && head_fits rs (given_of v)) e (field_at (fields_in words rule) k (let n = fields_length words rule in omega arith))
            ∙ ap (λ (y : Optional Value). value_fits (get_or (fields_in words rule) k no_range) (given_of y)) q);
      }

pub ruleset Stills = (still_past, still_number)

-- ---- the values of a line

over_next : (fs : List Range) (k : ℕ) → (ltb (length fs) k || none_left (drop k fs)) ≡ ltb (length fs) (k + 1)
over_next fs k = by (ltb k (length fs)) refl
  where
    by : (t : Bool) → ltb k (length fs) ≡ t → (ltb (length fs) k || none_left (drop k fs)) ≡ ltb (length fs) (k + 1)
    by true e =
        let l = ltb-true k (length fs) e in
        ap₂ (λ (a b : Bool). a || b) (le-ltb (length fs) k (omega arith)) (ap none_left (field_at fs k l)) ∙ sym (le-ltb (length fs) (k + 1) (omega arith))
    by false e =
        let l = ltb-false k (length fs) e in
        ap (λ (b : Bool). ltb (length fs) k || b) (ap none_left (drop_of_length-le fs l)) ∙ either (ltb (length fs) k) ∙ sym (lt-ltb (length fs) (k + 1) (omega arith))
      where
        either : (a : Bool) → (a || true) ≡ true
        either true = refl
        either false = refl

rest_next : (fs : List Range) (k : ℕ) → rest_of (drop k fs) ≡ drop (k + 1) fs
rest_next fs k = by (ltb k (length fs)) refl
  where
    by : (t : Bool) → ltb k (length fs) ≡ t → rest_of (drop k fs) ≡ drop (k + 1) fs
    by true e = ap rest_of (field_at fs k (ltb-true k (length fs) e))
    by false e =
        let l = ltb-false k (length fs) e in
        ap rest_of (drop_of_length-le fs l) ∙ sym (drop_of_length-le fs (let m : length fs ≤ k + 1 = omega arith in m))

-- the values go on at the line `here` with the fields from k on
pub record Valuing (fs : List Range) (fl : ℕ) (line : List ℕ) (fit kept : Bool) (k : ℕ) (here : List ℕ) : Type 0 where
  pub is : values_number fs fl 0 false true true (line_values (pieces 0 line)) ≡ values_number (drop k fs) fl k (ltb (length fs) k) fit kept (line_values (pieces 0 here))
  pub few : k + length here ≤ length line

last_number : (rs : List Range) (fl k : ℕ) (over fit kept : Bool) → values_number rs fl k over fit kept (some []) ≡ (if over then 52 else if not fit then 53 else if not kept then 58 else 0)
unfolding all_fit
last_number rs fl k over fit kept = by over fit kept (le-ltb (length rs) 0 (omega arith))
  where
    by : (a b c : Bool) → ltb (length rs) 0 ≡ false
        → ◌≡◌ {A = ℕ} (if a || ltb (length rs) 0 then 52 else if not (b && all_fit rs []) then 53 else if not (c && true) then 58 else 0) (if a then 52 else if not b then 53 else if not c then 58 else 0)
    by true b c e = refl
    by false true true e = rw e
    by false true false e = rw e
    by false false c e = rw e

module _ (fs : List Range) (fl : ℕ) (line : List ℕ) where
  pub values_start : Valuing fs fl line true true 0 line
  values_start = record { is = ap (λ (o : Bool). values_number fs fl 0 o true true (line_values (pieces 0 line))) (sym (le-ltb (length fs) 0 (omega arith))); few = omega arith }

  module _ {fit kept : Bool} {k : ℕ} {here : List ℕ} (w : Valuing fs fl line fit kept k here) where
    left : {y : Optional Valued} → ReadsValue here y → values_number fs fl 0 false true true (line_values (pieces 0 line)) ≡ values_number (drop k fs) fl k (ltb (length fs) k) fit kept (valued_of y)
    left r = w.is ∙ ap (values_number (drop k fs) fl k (ltb (length fs) k) fit kept) r.is

    pub values_bad : {n : ℕ} → ReadsValue here None → ReadsValues fs n fl line None
    values_bad r = record { is = sym (left r) }

    module _ {v : Valued} (r : ReadsValue here (Some v)) {fit' kept' : Bool} (s : StillFits fs k v.given fit fit') (u : StillKept fl k v.given kept kept') where
      stepped : (o : Option (List (Option ℤ)))
          → values_number (drop k fs) fl k (ltb (length fs) k) fit kept (before_values (given_of v.given) o) ≡ values_number (drop (k + 1) fs) fl (k + 1) (ltb (length fs) (k + 1)) fit' kept' o
      stepped o =
          one_value (drop k fs) fl k (ltb (length fs) k) fit kept (given_of v.given) o
          ∙ ap₂ (λ (rs : List Range) (a : Bool). values_number rs fl (suc k) a (fit && head_fits (drop k fs) (given_of v.given)) (kept && keeps_flag fl k (given_of v.given)) o) (rest_next fs k) (over_next fs k)
          ∙ ap₂ (λ (b c : Bool). values_number (drop (k + 1) fs) fl (suc k) (ltb (length fs) (k + 1)) b c o) (sym s.is) (sym u.is)
          ∙ ap (λ (i : ℕ). values_number (drop (k + 1) fs) fl i (ltb (length fs) (k + 1)) fit' kept' o) (sym (add-one k))

      pub values_more : {rest : Bor (List ℕ)} → v.next ≡ Some rest → Valuing fs fl line fit' kept' (k + 1) rest.now
      values_more {rest} e =
          record {
            is = left r ∙ stepped (further v.next) ∙ ap (λ (o : Optional (Bor (List ℕ))). values_number (drop (k + 1) fs) fl (k + 1) (ltb (length fs) (k + 1)) fit' kept' (further o)) e;
            few = let a : length rest.now < length here = (subst (RestOnward here) e r.onward).0 in let b = w.few in omega arith;
          }

      pub values_done : {n : ℕ} → v.next ≡ None → length fs ≡ n → ReadsValues fs n fl line (Some (record { count = k + 1; fit = fit'; kept = kept' }))
      values_done {n} e f =
          record {
            is = ap (λ (m : ℕ). count_number m (k + 1) fit' kept') (sym f)
                ∙ sym (left r ∙ stepped (further v.next) ∙ ap (λ (o : Optional (Bor (List ℕ))). values_number (drop (k + 1) fs) fl (k + 1) (ltb (length fs) (k + 1)) fit' kept' (further o)) e
                ∙ last_number (drop (k + 1) fs) fl (k + 1) (ltb (length fs) (k + 1)) fit' kept');
          }

pub values_less : (here : List ℕ) {v : Valued} {rest : Bor (List ℕ)} → ReadsValue here (Some v) → v.next ≡ Some rest → length rest.now < length here
values_less here {v} {rest} r e = (subst (RestOnward here) e r.onward).0

pub ruleset ValuesWays = (values_start, values_less, values_bad, values_more, values_done, fields_length)
