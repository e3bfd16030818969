-- The flag of an accepted source, and the answer: one law for each way through the code.
use Prim.Native.Nat.{ℕ, ◌<◌}
use native.Mathlib.Omega.{arith}
use mathlib.Core.Path.{◌≡◌, refl, sym, ap, ap₂, ◌∙◌, subst}
use mathlib.Core.Bool.{Bool, true, false, not}
use mathlib.Core.List.{List}
use mathlib.Core.Option.{Option, none, some}
use lib.ListN.{length}
use borrow.Author.Tests.{not-true, not-false}
use Rattle.value.specs.Limits.{name_words}
use Rattle.std.specs.Prelude.{Result, Ok, Err, if◌then◌else◌}
use Rattle.value.proofs.Theorems.Laws.{never}
use Rattle.token.specs.Lexeme.{is_built_in}
use Rattle.program.specs.Syntax.{Range}
use Rattle.program.specs.Refusal.{Refusal, refusal}
use Rattle.program.specs.declared.Rule.{Rule}
use Rattle.grammar.specs.Source.{Accepted}
use Rattle.grammar.specs.Checking.{SourceRead, turned_away, refused, accepted, rooms_fit, read_source, reply_of, check}
use Rattle.grammar.specs.Promises.Flat.{lent_fit}
use Rattle.grammar.specs.Promises.Traces.{accepted_by}
use Rattle.program.specs.Promises.Fitting.{Sized}
use Rattle.run_meaning.specs.Promises.Fitting.{held_fields}
use Rattle.read_source.specs.Promises.Promises.{is_accepted, Loads, Checks}
use Rattle.read_source.proofs.Checks.{unlisted, list_right}
use Rattle.move_meaning.specs.Profile.{moved_slot, flag_in, flag_field, tokens_in, tokens_of, statements_at, moves_once, if_moves, profile_flag, rule_missed, missed, answer_of, one_move}
use Rattle.move_meaning.specs.Promises.Flags.{flag_told}
use Rattle.move_meaning.proofs.Theorems.InProfile.{flag_found}
use Rattle.move_profile.specs.declared.Missed.{Missed}
use Rattle.move_profile.specs.declared.Missed.TheVariants.{Refused, NoFlag, OtherStatements}
use Rattle.move_profile.specs.Promises.Standing.{Stood}
use Rattle.move_profile.specs.Promises.Fields.{field_in, FlagField}
use Rattle.move_profile.specs.Promises.Moves.{DecidesMove}
use Rattle.move_profile.specs.Promises.Flags.{FlagOf, RuleMissed, CheckOneMove}
use Rattle.move_profile.proofs.StandingLaws.{sized, stood}

-- ---- the flag

module _ {source words names : List ℕ} {rule : Rule} {a : Accepted} (s : Stood source words names rule a) where
  -- rule 2, of the accepted source
  field_same : field_in source words names rule ≡ flag_field source a
  unfolding flag_field
  field_same =
      ap₂ (λ (ns : List ℕ) (rs : List Range). flag_in (moved_slot source ns) ns rs) s.names_are (sym s.holds.fields)

  -- rule 3
  moves_same : {f : ℕ} {r : Bool} → DecidesMove words rule.tokens f rule.body r → r ≡ moves_once f (tokens_of source a) (statements_at source)
  moves_same {f} m =
      m.is a.program.dims
      ∙ ap₂ (λ (ws : List ℕ) (n : ℕ). moves_once f (tokens_in ws n a.program.dims) rule.body) s.words_are s.tokens
      ∙ ap (moves_once f (tokens_of source a)) s.body

  -- a flag is one of the fields
  below : {f : ℕ} → flag_field source a ≡ some f → f < rule.fields
  below {f} e = subst (λ (n : ℕ). f < n) (held_fields a.program s.holds) (flag_found source a f e).has

  module _ {f : ℕ} (h : FlagField source words names rule f) where
    by_field : (o : Option ℕ) → flag_field source a ≡ o → f ≡ flag_told rule.fields o
    by_field o e = h.is ∙ ap (flag_told rule.fields) (field_same ∙ e)

    pub no_field : f ≡ rule.fields → flag_field source a ≡ none
    no_field q = go (flag_field source a) refl
      where
        go : (o : Option ℕ) → flag_field source a ≡ o → flag_field source a ≡ none
        go none e = e
        go (some g) e = absurd (let l = below e in let z = by_field (some g) e in omega arith)

    pub a_field : (f ≡ rule.fields → ⊥) → flag_field source a ≡ some f
    a_field q = go (flag_field source a) refl
      where
        go : (o : Option ℕ) → flag_field source a ≡ o → flag_field source a ≡ some f
        go none e = absurd (q (by_field none e))
        go (some g) e = e ∙ ap (λ (x : ℕ). some x) (sym (by_field (some g) e))

profile_none : (source : List ℕ) (a : Accepted) → flag_field source a ≡ none → profile_flag source a ≡ none
unfolding profile_flag
profile_none source a e = ap (if_moves source a) e

profile_some : (source : List ℕ) (a : Accepted) {f : ℕ} → flag_field source a ≡ some f → {r : Bool} → r ≡ moves_once f (tokens_of source a) (statements_at source)
    → profile_flag source a ≡ (if r then some f else none)
unfolding profile_flag
profile_some source a {f} e m = ap (if_moves source a) e ∙ ap (λ (t : Bool). if t then some f else none) (sym m)

module _ {source words names : List ℕ} {rule : Rule} {f : ℕ} (h : FlagField source words names rule f) where
  pub flag_none : f ≡ rule.fields → FlagOf source words names rule f
  flag_none q = record { is = λ a s. q ∙ sym (ap (flag_told rule.fields) (profile_none source a (no_field s h q))) }

  module _ (q : f ≡ rule.fields → ⊥) {r : Bool} (m : DecidesMove words rule.tokens f rule.body r) where
    pub flag_some : r ≡ true → FlagOf source words names rule f
    flag_some y =
        record { is = λ a s. sym (ap (flag_told rule.fields) (profile_some source a (a_field s h q) (moves_same s m) ∙ ap (λ (t : Bool). if t then some f else none) y)) }

    pub flag_still : r ≡ false → FlagOf source words names rule rule.fields
    flag_still y =
        record { is = λ a s. sym (ap (flag_told rule.fields) (profile_some source a (a_field s h q) (moves_same s m) ∙ ap (λ (t : Bool). if t then some f else none) y)) }

pub ruleset Flags = (flag_none, flag_some, flag_still)

-- ---- the rule that is missed

module _ {source words names : List ℕ} {rule : Rule} {f : ℕ} (h : FlagField source words names rule f) where
  pub missed_two : f ≡ rule.fields → RuleMissed source words names rule (Err NoFlag)
  missed_two q = record { is = λ a s. sym (ap (λ (o : Option ℕ). missed (rule_missed o (profile_flag source a)) 0 0) (no_field s h q)) }

  module _ (q : f ≡ rule.fields → ⊥) {g : ℕ} (k : FlagOf source words names rule g) where
    by_flag : (a : Accepted) → Stood source words names rule a → (o : Option ℕ) → profile_flag source a ≡ o
        → (rule_missed (flag_field source a) (profile_flag source a) ≡ rule_missed (some f) o) × (g ≡ flag_told rule.fields o)
    by_flag a s o e = (ap₂ rule_missed (a_field s h q) e, k.is a s ∙ ap (flag_told rule.fields) e)

    -- a flag is one of the fields
    flag_below : (a : Accepted) → Stood source words names rule a → {x : ℕ} → profile_flag source a ≡ some x → x < rule.fields
    unfolding profile_flag
    flag_below a s {x} e = go (moves_once f (tokens_of source a) (statements_at source)) refl (sym (ap (if_moves source a) (a_field s h q)) ∙ e)
      where
        go : (t : Bool) → moves_once f (tokens_of source a) (statements_at source) ≡ t → (if t then some f else none) ≡ some x → x < rule.fields
        go true m z = let same : f ≡ x = cc in subst (λ (n : ℕ). n < rule.fields) same (below s (a_field s h q))
        go false m z = absurd (let y : ◌≡◌ {A = ℕ} 0 1 = cc in omega arith)

    pub missed_three : g ≡ rule.fields → RuleMissed source words names rule (Err OtherStatements)
    missed_three z = record { is = λ a s. go a s (profile_flag source a) refl }
      where
        go : (a : Accepted) (s : Stood source words names rule a) (o : Option ℕ) → profile_flag source a ≡ o → missed 3 0 0 ≡ missed (rule_missed (flag_field source a) (profile_flag source a)) 0 0
        go a s none e = ap (λ (r : ℕ). missed r 0 0) (sym (by_flag a s none e).0)
        go a s (some x) e = absurd (let l = flag_below a s e in let y = (by_flag a s (some x) e).1 in omega arith)

    pub missed_none : (g ≡ rule.fields → ⊥) → RuleMissed source words names rule (Ok tt)
    missed_none z = record { is = λ a s. go a s (profile_flag source a) refl }
      where
        go : (a : Accepted) (s : Stood source words names rule a) (o : Option ℕ) → profile_flag source a ≡ o → missed 0 0 0 ≡ missed (rule_missed (flag_field source a) (profile_flag source a)) 0 0
        go a s none e = absurd (z (by_flag a s none e).1)
        go a s (some x) e = ap (λ (r : ℕ). missed r 0 0) (sym (by_flag a s (some x) e).0)

pub ruleset Misses = (missed_two, missed_three, missed_none)

-- ---- the answer

module _ {fit : Bool} {source ws ns : List ℕ} {number place : ℕ} {ws' ns' : List ℕ} (checked : Checks fit source ws ns number place ws' ns') where
  -- a source that is refused
  refused_answer : is_accepted (read_source fit source) ≡ false → CheckOneMove fit source ws ns (Err (Refused (refusal number place))) ws' ns'
  unfolding one_move check
  refused_answer e = record { answer = go (read_source fit source) e checked.reply; words = checked.words; names = checked.names }
    where
      go : (o : SourceRead) → is_accepted o ≡ false → refusal number place ≡ reply_of o → missed 1 number place ≡ answer_of source o
      go (turned_away n p) e q = ap (λ (x : Refusal). missed 1 x.number x.place) q
      go (refused n p) e q = ap (λ (x : Refusal). missed 1 x.number x.place) q
      go (accepted a) e q = never (sym e)

  -- a reply that is not 0 refuses
  not_zero : (number ≡ 0 → ⊥) → is_accepted (read_source fit source) ≡ false
  unfolding check
  not_zero z = go (read_source fit source) checked.reply
    where
      go : (o : SourceRead) → refusal number place ≡ reply_of o → is_accepted o ≡ false
      go (turned_away n p) q = refl
      go (refused n p) q = refl
      go (accepted a) q = absurd (z (ap (λ (x : Refusal). x.number) q))

module _ {source ws ns : List ℕ} {known : Bool} {rule : Rule} {n place : ℕ} {ws' ns' : List ℕ}
    (checked : Checks (rooms_fit (length ws) (length ns)) source ws ns n place ws' ns') (loaded : Loads source ws ns known rule) where
  pub not_loaded : not known ≡ true → CheckOneMove (rooms_fit (length ws) (length ns)) source ws ns (Err (Refused (refusal n place))) ws' ns'
  not_loaded u = refused_answer checked (sym loaded.is ∙ not-true known u)

  module _ (sure : not known ≡ false) where
    pub can_miss : length ns ≡ length ns' → (Sized (length ws') rule) × (length ns' ≡ name_words)
    can_miss k = (sized checked loaded (not-false known sure), sym k ∙ loaded.list (not-false known sure))

    pub told_missed : {r : Result (Unit {0}) Missed} → RuleMissed source ws' ns' rule r → CheckOneMove (rooms_fit (length ws) (length ns)) source ws ns r ws' ns'
    unfolding one_move
    told_missed {r} m =
        let known_so = not-false known sure in
        let t = (loaded.given known_so).0 in
        let e = loaded.reads known_so t in
        record {
          answer =
              m.is (accepted_by t) (stood checked loaded known_so (accepted_by t) e)
              ∙ ap (answer_of source) (sym e);
          words = checked.words;
          names = checked.names;
        }

module _ (list : List ℕ) {source ws ns : List ℕ} {t : Bool} (is : t ≡ is_built_in list) where
  pub other_list : not t ≡ true → {f : Refusal} → f ≡ refusal 1 0 → CheckOneMove (lent_fit list (length ws) (length ns)) source ws ns (Err (Refused f)) ws ns
  other_list e {f} q =
      let c : Checks (lent_fit list (length ws) (length ns)) source ws ns 1 0 ws ns = unlisted list is e in
      subst (λ (x : Refusal). CheckOneMove (lent_fit list (length ws) (length ns)) source ws ns (Err (Refused x)) ws ns) (sym q) (refused_answer c (not_zero c (λ z. omega arith)))

  pub built_in_list : not t ≡ false → {p : Result (Unit {0}) Missed} {ws' ns' : List ℕ} → CheckOneMove (rooms_fit (length ws) (length ns)) source ws ns p ws' ns'
      → CheckOneMove (lent_fit list (length ws) (length ns)) source ws ns p ws' ns'
  built_in_list e {p} {ws'} {ns'} = subst (λ (fit : Bool). CheckOneMove fit source ws ns p ws' ns') (sym (list_right list (length ws) (length ns) (sym is ∙ not-false t e)))
