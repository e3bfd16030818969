-- The laws of a check: one for each way that it can end.
use Prim.Native.Nat.{ℕ, ◌≤◌, ◌<◌}
use mathlib.Core.Path.{◌≡◌, refl, sym, ap, subst, ◌∙◌}
use mathlib.Core.List.{List}
use mathlib.Core.Bool.{Bool, true, false, not, ◌&&◌}
use lib.ListN.{length, replicate}
use borrow.Author.Tests.{eq-eqb, ne_eqb, lt-ltb, le-ltb, not-true, not-false}
use Rattle.value.proofs.Theorems.Laws.{never}
use Rattle.token.specs.declared.Scan.{Scan}
use Rattle.token.specs.Kind.{kind}
use Rattle.token.specs.Lexeme.{is_built_in}
use Rattle.token.specs.Promises.Promises.{Scans}
use Rattle.program.specs.Refusal.{Refusal, refusal}
use Rattle.program.specs.declared.Rule.{Rule}
use Rattle.grammar.specs.Reader.{ok, fail}
use Rattle.grammar.specs.Source.{Accepted, has_kind, settled, read_program, what_is_read, parse}
use Rattle.grammar.specs.Checking.{source_read, rooms_fit, read_source, check, words_after}
use Rattle.grammar.specs.Promises.Flat.{lent_fit, names_after}
use Rattle.grammar.proofs.Theorems.Traces.{parses}
use Rattle.read_state.specs.Promises.Reading.{Read, input, state, Told}
use Rattle.read_state.specs.declared.Reading.{Reading}
use Rattle.std.specs.Prelude.{Result, Ok, Err}
use Rattle.read_state.proofs.Steps.{went_on}
use Rattle.read_source.specs.Promises.Promises.{begun, end_in, Whole, Programs, Checks, is_accepted, Loads, refusal_in, is_loaded, rule_in}
use Rattle.read_source.specs.declared.checking.ProgramRead.{ProgramRead}
use Rattle.read_source.proofs.Traces.{rule_read}

-- ---- whether the rooms fit

module _ (ws ns : List ℕ) where
  words_wrong : (length ws ≡ 16384 → ⊥) → rooms_fit (length ws) (length ns) ≡ false
  unfolding rooms_fit
  words_wrong n = simp (ne_eqb _ _ n)

  names_wrong : length ws ≡ 16384 → (length ns ≡ 1024 → ⊥) → rooms_fit (length ws) (length ns) ≡ false
  unfolding rooms_fit
  names_wrong e n = simp (eq-eqb _ _ e, ne_eqb _ _ n)

  both_right : length ws ≡ 16384 → length ns ≡ 1024 → rooms_fit (length ws) (length ns) ≡ true
  unfolding rooms_fit
  both_right e f = simp (eq-eqb _ _ e, eq-eqb _ _ f)

-- what loading a source gives
abbrev Answers : (source ws ns : List ℕ) → Result Rule Refusal → (ws' ns' : List ℕ) → Type 0
Answers source ws ns r ws' ns' =
    Checks (rooms_fit (length ws) (length ns)) source ws ns (refusal_in r).number (refusal_in r).place ws' ns' × Loads source ws ns (is_loaded r) (rule_in r)

-- a source that is not accepted
unaccepted : {source ws ns ws' ns' : List ℕ} {e : Refusal} → Checks (rooms_fit (length ws) (length ns)) source ws ns e.number e.place ws' ns'
    → false ≡ is_accepted (read_source (rooms_fit (length ws) (length ns)) source) → Answers source ws ns (Err e) ws' ns'
unaccepted x e = (x, record { is = e; given = never; reads = never; table = never; list = never; short = never; none = λ _. refl })

module _ (source ws ns : List ℕ) {f : Refusal} where
  turned_away_1 : rooms_fit (length ws) (length ns) ≡ false → f ≡ refusal 1 0 → Answers source ws ns (Err f) ws ns
  unfolding check words_after names_after read_source
  turned_away_1 e q = rw q (unaccepted (record { reply = simp e; words = simp e; names = simp e }) (simp e))

  pub no_table : (length ws ≡ 16384 → ⊥) → f ≡ refusal 1 0 → Answers source ws ns (Err f) ws ns
  no_table n = turned_away_1 (words_wrong ws ns n)

  pub no_list : length ws ≡ 16384 → (length ns ≡ 1024 → ⊥) → f ≡ refusal 1 0 → Answers source ws ns (Err f) ws ns
  no_list e n = turned_away_1 (names_wrong ws ns e n)

  pub too_long : length ws ≡ 16384 → length ns ≡ 1024 → 65535 < length source → f ≡ refusal 2 65535 → Answers source ws ns (Err f) ws ns
  unfolding check words_after names_after read_source
  too_long e f l q =
      rw q
      (unaccepted
      (record {
        reply = simp (both_right ws ns e f, lt-ltb _ _ l);
        words = simp (both_right ws ns e f, lt-ltb _ _ l);
        names = simp (both_right ws ns e f, lt-ltb _ _ l);
      })
      (simp (both_right ws ns e f, lt-ltb _ _ l)))

-- ---- reading

module _ (source ws ns : List ℕ) (e : length ws ≡ 16384) (f : length ns ≡ 1024) (l : length source ≤ 65535) where
  reads : read_source (rooms_fit (length ws) (length ns)) source ≡ source_read (parse source)
  unfolding read_source
  reads = simp (both_right ws ns e f, le-ltb _ _ l)

  refuses : (k p : ℕ) → parse source ≡ fail k p → Checks (rooms_fit (length ws) (length ns)) source ws ns k p (replicate (length ws) 0) (replicate (length ns) 0)
  unfolding check words_after names_after
  refuses k p q = record { reply = simp (reads, q); words = simp (reads, q); names = simp (reads, q) }

  accepts : (a : Accepted) → parse source ≡ ok a → Checks (rooms_fit (length ws) (length ns)) source ws ns 0 0 a.words a.names
  unfolding check words_after names_after
  accepts a q = record { reply = simp (reads, q); words = simp (reads, q); names = simp (reads, q) }

  -- what reading gives from the tokens of the source, where no name is declared
  module _ {sc : Scan} {ws₁ ns₁ ws₂ ns₂ : List ℕ} {r : Result ProgramRead Refusal} (x : Scans source sc ws₁) (z : ns₁ ≡ replicate 1024 0) (g : Programs source sc ns₁ ws₁ r ns₂ ws₂) where
    parsed : parse source ≡ what_is_read (read_program (input source sc) (state begun ns₁ ws₁))
    unfolding parse
    parsed = rw (x.is, x.words, z) refl

    read_refused : {u : Refusal} → r ≡ Err u → parse source ≡ fail u.number u.place
    read_refused q = parsed ∙ ap what_is_read (subst (λ (u : Result ProgramRead Refusal). Told (Whole ns₂ ws₂) (read_program (input source sc) (state begun ns₁ ws₁)) (end_in u) ns₂ ws₂) q g.gives.is)

    pub refused_with : {u : Refusal} {ws' ns' : List ℕ} → r ≡ Err u → length ws₂ ≡ length ws → length ns₂ ≡ length ns → ws' ≡ replicate (length ws₂) 0
        → ns' ≡ replicate (length ns₂) 0 → Answers source ws ns (Err u) ws' ns'
    refused_with {u} q a b c d =
        unaccepted (rw (c ∙ ap (λ (n : ℕ). replicate n 0) a, d ∙ ap (λ (n : ℕ). replicate n 0) b) (refuses u.number u.place (read_refused q))) (simp (reads, read_refused q))

    pub accepted_with : {p : ProgramRead} {ns' : List ℕ} → r ≡ Ok p → ns' ≡ settled ws₂ ns₂ p.next.count
        → (rule : Rule) → rule.tokens ≡ sc.count → rule.base ≡ p.base → rule.body ≡ p.body → rule.dims ≡ p.dims → rule.fields ≡ p.fields → rule.slots ≡ p.next.count
        → rule.timed ≡ has_kind kind.time ws₂ sc.count
        → Answers source ws ns (Ok rule) ws₂ ns'
    accepted_with {p} {ns'} q d rule tokens base body dims fields slots timed =
        let y = (went_on g.gives (ap end_in q)).is in
        let a = y.0 in
        let w = y.1 in
        let h : parse source ≡ ok a = parsed ∙ ap what_is_read y.2 in (
          subst (λ (l : List ℕ). Checks (rooms_fit (length ws) (length ns)) source ws ns 0 0 l ns') w.words (subst (λ (l : List ℕ). Checks (rooms_fit (length ws) (length ns)) source ws ns 0 0 a.words l) (w.names ∙ sym d) (accepts a h)),
          record {
            is = simp (reads, h);
            given = λ _. rule_read x z (g.follows p q) rule tokens base body dims fields slots timed;
            reads = λ _ u. reads ∙ ap source_read (parses u);
            table = λ _. e;
            list = λ _. f;
            short = λ _. l;
            none = λ k. never (sym k);
          },
        )

-- ---- the built-in list

module _ (list : List ℕ) (words names : ℕ) where
  pub list_right : is_built_in list ≡ true → lent_fit list words names ≡ rooms_fit words names
  unfolding lent_fit
  list_right e = ap (λ (t : Bool). t && rooms_fit words names) e

  list_wrong : is_built_in list ≡ false → lent_fit list words names ≡ false
  unfolding lent_fit
  list_wrong e = ap (λ (t : Bool). t && rooms_fit words names) e

-- where what is lent does not fit, nothing is read
pub turned_check : (source ws ns : List ℕ) → Checks false source ws ns 1 0 ws ns
unfolding check words_after names_after read_source
turned_check source ws ns = record { reply = refl; words = refl; names = refl }

module _ (list : List ℕ) {source ws ns : List ℕ} {t : Bool} (is : t ≡ is_built_in list) where
  pub unlisted : not t ≡ true → Checks (lent_fit list (length ws) (length ns)) source ws ns 1 0 ws ns
  unlisted e = subst (λ (fit : Bool). Checks fit source ws ns 1 0 ws ns) (sym (list_wrong list (length ws) (length ns) (sym is ∙ not-true t e))) (turned_check source ws ns)

  pub listed : {number place : ℕ} {ws' ns' : List ℕ} → not t ≡ false → Checks (rooms_fit (length ws) (length ns)) source ws ns number place ws' ns'
      → Checks (lent_fit list (length ws) (length ns)) source ws ns number place ws' ns'
  listed {number} {place} {ws'} {ns'} e = subst (λ (fit : Bool). Checks fit source ws ns number place ws' ns') (sym (list_right list (length ws) (length ns) (sym is ∙ not-false t e)))
