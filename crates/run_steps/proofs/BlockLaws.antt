-- The cursor over the value list of a run: which block is set at a time, and which is next.
use mathlib.Core.Path.{◌≡◌, refl, sym, ap, ◌∙◌, subst}
use mathlib.Core.Bool.{Bool, true, false}
use mathlib.Core.List.{List, [], ◌∷◌}
use Prim.Native.Nat.{ℕ, ◌+◌, ◌≤◌, ◌<◌}
use native.Mathlib.Nat.{le_refl}
use native.Mathlib.Omega.{arith}
use lib.ListN.{length, drop}
use lib.IntN.{ℤ}
use borrow.Author.Tests.{eqb-true, eqb-false, eq-eqb, ne_eqb}
use Rattle.value.proofs.Theorems.Laws.{never}
use Rattle.list_meaning.specs.Lines.{Said, bad, time, cell, said}
use Rattle.list_meaning.specs.ListChecking.{Limits}
use Rattle.list_meaning.specs.Setting.{set_block}
use Rattle.std.specs.Prelude.{Some, None, is_some}
use Rattle.list_reader.specs.declared.setting.Block.{Block}
use Rattle.list_reader.specs.Promises.Settings.{AtBlock, NextTime, SetsLines}
use Rattle.list_reader.proofs.CursorLaws.{Reached, reached_start, reached_on, none_due, later_due, due_set, reached_next}
use Rattle.run_meaning.specs.declared.Bounds.{Bounds}
use Rattle.run_marking.specs.Promises.Opened.{MarksChanged}
use Rattle.run_steps.specs.Promises.Blockwise.{Next, is_due, lines_of, DueSet}
use Rattle.run_steps.specs.Promises.Stepwise.{Listed}

-- ---- the cursor

-- `next` is the first block from a time on of a list that passes
pub record Follows (sizes : List ℕ) (fields : ℕ) (text : List ℕ) (now : ℕ) (next : Next) : Type 0 where
  pub limits : Limits
  pub sizes_are : limits.sizes ≡ sizes
  pub at : ℕ
  pub reached : Reached limits sizes fields text now at
  pub found : NextTime text at next

pub follows_start : {sizes text : List ℕ} {start : ℕ} (fields : ℕ) → Listed sizes text start → {next : Next} → NextTime text 0 next → Follows sizes fields text start next
follows_start {sizes} {text} fields l {next} n = record {
  limits = l.limits;
  sizes_are = l.sizes_are;
  at = 0;
  reached = subst (λ (t : ℕ). Reached l.limits sizes fields text t 0) l.first_is (reached_start l.limits sizes fields text l.passes);
  found = n;
}

module _ {sizes : List ℕ} {fields : ℕ} {text : List ℕ} {now : ℕ} {next : Next} (f : Follows sizes fields text now next) where
  -- its cells' lines begin within the text
  pub follows_within : lines_of next ≤ length text
  follows_within = by next refl
    where
      begun : (b : Block) → next ≡ Some b → (ss : List Said) → said (drop f.at text) ≡ ss → AtBlock ss → b.behind ≤ length text
      begun b e [] g o = never (ap is_some (sym (f.found.ends g) ∙ e))
      begun b e (bad ∷ ss) g o = absurd o
      begun b e (time u ∷ ss) g o =
          let h = f.found.begins u ss g in
          let same : h.behind ≡ b.behind = ap lines_of (sym h.is ∙ e) in
          subst (λ (x : ℕ). x ≤ length text) same h.within
      begun b e (cell is vs ∷ ss) g o = absurd o

      by : (d : Next) → next ≡ d → lines_of next ≤ length text
      by None e = rw e (omega arith)
      by (Some b) e = rw e (begun b e (said (drop f.at text)) refl f.reached.opens)

  -- where no block is due at this time, it has none, and the cursor stays
  pub follows_stay : is_due next now ≡ false → ((g : List ℤ) → set_block sizes fields text now g ≡ g) × Follows sizes fields text (now + 1) next
  follows_stay shut = by next refl
    where
      on : ((t : ℕ) (ss : List Said) → said (drop f.at text) ≡ time t ∷ ss → now < t) → Follows sizes fields text (now + 1) next
      on later = record { limits = f.limits; sizes_are = f.sizes_are; at = f.at; reached = reached_on f.limits sizes fields text f.reached later; found = f.found }

      by : (d : Next) → next ≡ d → ((g : List ℤ) → set_block sizes fields text now g ≡ g) × Follows sizes fields text (now + 1) next
      by None e = (
        λ g. none_due f.limits sizes fields text f.reached f.found e now (le_refl now) g,
        on (λ t ss q. never (ap is_some (sym e ∙ (f.found.begins t ss q).is))),
      )
      by (Some b) e =
          let other = eqb-false b.time now (ap (λ (x : Next). is_due x now) (sym e) ∙ shut) in
          let same : (u : ℕ) (ss : List Said) → said (drop f.at text) ≡ time u ∷ ss → u ≡ b.time = λ u ss q. ap (time_of u) (sym (f.found.begins u ss q).is ∙ e) in (
            λ g. later_due f.limits sizes fields text f.reached f.found e now (le_refl now) (above other) g,
            on (λ u ss q. subst (λ (x : ℕ). now < x) (sym (same u ss q)) (above other)),
          )
        where
          -- the time of a block that is there
          time_of : ℕ → Next → ℕ
          time_of u (Some x) = x.time
          time_of u None = u

          above : (b.time ≡ now → ⊥) → now < b.time
          above d = go (said (drop f.at text)) refl f.reached.opens
            where
              go : (ss : List Said) → said (drop f.at text) ≡ ss → AtBlock ss → now < b.time
              go [] g o = never (ap is_some (sym (f.found.ends g) ∙ e))
              go (bad ∷ ss) g o = absurd o
              go (time u ∷ ss) g o =
                  let same : u ≡ b.time = ap (time_of u) (sym (f.found.begins u ss g).is ∙ e) in
                  strictly b.time now (subst (λ (x : ℕ). now ≤ x) same (f.reached.ahead u ss g)) d
                where
                  strictly : (t n : ℕ) → n ≤ t → (t ≡ n → ⊥) → n < t
                  strictly t n l d = omega (arith, l, d)
              go (cell is vs ∷ ss) g o = absurd o

  -- where one is due, it is set, and the cursor moves on
  pub follows_set : is_due next now ≡ true → {at' : ℕ} {g h : List ℤ} → SetsLines sizes fields text (lines_of next) at' g h → {next' : Next} → NextTime text at' next'
      → (set_block sizes fields text now g ≡ h) × Follows sizes fields text (now + 1) next'
  follows_set due {at'} {g} {h} s {next'} n = by next refl
    where
      by : (d : Next) → next ≡ d → (set_block sizes fields text now g ≡ h) × Follows sizes fields text (now + 1) next'
      by None e = never (ap (λ (x : Next). is_due x now) (sym e) ∙ due)
      by (Some b) e =
          let same : b.time ≡ now = eqb-true b.time now (ap (λ (x : Next). is_due x now) (sym e) ∙ due) in
          let sets = subst (λ (x : Next). SetsLines sizes fields text (lines_of x) at' g h) e s in
          let l : now ≤ b.time = omega arith in (
            subst (λ (x : ℕ). set_block sizes fields text x g ≡ h) same (due_set f.limits sizes fields text f.reached f.found e l f.sizes_are sets),
            record {
              limits = f.limits;
              sizes_are = f.sizes_are;
              at = at';
              reached = subst (λ (x : ℕ). Reached f.limits sizes fields text (x + 1) at') same (reached_next f.limits sizes fields text f.reached f.found e l f.sizes_are sets);
              found = n;
            },
          )

-- ---- the ways through setting a block

module _ {next : Next} {b : Block} (is : next ≡ Some b) where
  due_here : {t : ℕ} → b.time ≡ t → is_due next t ≡ true
  due_here {t} same = ap (λ (x : Next). is_due x t) is ∙ eq-eqb b.time t same

  behind : {sizes : List ℕ} {fields : ℕ} {text : List ℕ} {at : ℕ} {grid grid' : List ℤ} → SetsLines sizes fields text b.behind at grid grid' → SetsLines sizes fields text (lines_of next) at grid grid'
  behind {sizes} {fields} {text} {at} {grid} {grid'} s = subst (λ (x : Next). SetsLines sizes fields text (lines_of x) at grid grid') (sym is) s

module _ {text sizes : List ℕ} {bounds : Bounds} {backs : List ℕ} {listed : ℕ} {all_open : Bool} {fields : ℕ} {grid scratch : List ℤ} {marks : List ℕ} {t : ℕ} {next : Next} where
  none_set : is_due next t ≡ false → DueSet text sizes bounds backs listed all_open fields grid scratch marks t next next grid scratch marks
  none_set shut = record { stays = λ _. (refl, refl, refl, refl); sets = λ d. never (sym shut ∙ d); stands = λ d. never (sym shut ∙ d); opens = λ d. never (sym shut ∙ d) }

  pub no_block : next ≡ None → DueSet text sizes bounds backs listed all_open fields grid scratch marks t next next grid scratch marks
  no_block e = none_set (ap (λ (x : Next). is_due x t) e)

  module _ {b : Block} (is : next ≡ Some b) where
    pub other_time : (b.time ≡ t → ⊥) → DueSet text sizes bounds backs listed all_open fields grid scratch marks t next next grid scratch marks
    other_time d = none_set (ap (λ (x : Next). is_due x t) is ∙ ne_eqb b.time t d)

    module _ (same : b.time ≡ t) where
      pub all_set : all_open ≡ true → {at : ℕ} {grid' : List ℤ} {next' : Next} → SetsLines sizes fields text b.behind at grid grid' → NextTime text at next'
          → DueSet text sizes bounds backs listed all_open fields grid scratch marks t next next' grid' scratch marks
      all_set a {at} s n =
          record { stays = λ d. never (sym d ∙ due_here is same); sets = λ _. (at, behind is s, n); stands = λ _ _. (refl, refl); opens = λ _ b. never (sym b ∙ a) }

      pub some_set : all_open ≡ false → {at : ℕ} {grid' scratch' : List ℤ} {marks' : List ℕ} {next' : Next} → scratch' ≡ grid → SetsLines sizes fields text b.behind at grid grid'
          → MarksChanged sizes bounds backs listed fields scratch' grid' marks marks' → NextTime text at next' → DueSet text sizes bounds backs listed all_open fields grid scratch marks t next next' grid' scratch' marks'
      some_set a {at} {grid'} {scratch'} {marks'} old s m n =
          record {
            stays = λ d. never (sym d ∙ due_here is same);
            sets = λ _. (at, behind is s, n);
            stands = λ _ b. never (sym a ∙ b);
            opens = λ _ _. (old, subst (λ (x : List ℤ). MarksChanged sizes bounds backs listed fields x grid' marks marks') old m);
          }

pub ruleset Setting = (no_block, other_time, all_set, some_set)
