-- For the run with a list: what the verdict says of the program that stands in the table, and a cursor over a list that passes. The cursor stands
-- where a block begins or the list ends; `next_time` says which block is due there, and `set_lines` sets it and moves the cursor on.
use mathlib.Core.Path.{◌≡◌, refl, sym, ap, ap₂, ◌∙◌, subst}
use mathlib.Core.Bool.{Bool, true, false, not, ◌&&◌}
use mathlib.Core.List.{List, [], ◌∷◌}
use mathlib.Core.Option.{Option, some, none}
use Prim.Native.Nat.{ℕ, suc, ◌+◌, ◌≤◌, ◌<◌}
use native.Mathlib.Omega.{arith}
use lib.ListN.{length, drop}
use lib.IntN.{ℤ, nat_abs}
use lib.Dec.{eqb, leb}
use borrow.Author.Tests.{eq-eqb, ne_eqb, eqb-true}
use Rattle.std.specs.Prelude.{if◌then◌else◌}
use Rattle.value.proofs.Theorems.Laws.{never, and_both}
use Rattle.automaton.specs.Shape.{product}
use Rattle.program.specs.Syntax.{Program}
use Rattle.cell_meaning.specs.Promises.Stands.{Holds}
use Rattle.program.specs.Refusal.{Refusal, refusal}
use Rattle.program.specs.declared.Rule.{Rule}
use Rattle.run_meaning.specs.Admission.{Request, all_between, good_sizes, admission}
use Rattle.run_meaning.specs.Promises.Fitting.{held_fields}
use Rattle.move_meaning.specs.Promises.Flags.{flag_told}
use Rattle.list_meaning.specs.Lines.{Said, bad, time, cell, said}
use Rattle.list_meaning.specs.ListChecking.{Limits, limits_of, Verdict, check_list}
use Rattle.list_meaning.specs.Setting.{set_lines, set_block}
use Rattle.list_meaning.proofs.Theorems.Told.{told_check}
use Rattle.list_meaning.specs.Promises.Passing.{LinePasses}
use Rattle.list_meaning.proofs.Passing.{passes_first, rises_told, starts_told, not_yet}
use Rattle.list_reader.specs.Promises.Points.{Dimensions}
use Rattle.list_reader.specs.Promises.Values.{fields_in}
use Rattle.std.proofs.Common.{Option as Optional, Some, None, Ok}
use Rattle.list_reader.specs.Promises.Checks.{limits, ChecksLines}
use Rattle.list_reader.specs.declared.setting.Block.{Block}
use Rattle.list_reader.specs.Promises.Settings.{AtBlock, SetBlock, SetsLines, NextTime}
use Rattle.list_reader.proofs.SettingLaws.{set_nothing}

-- ---- the verdict

-- the check by the limits that the code has is that of the program that stands in the table, with the flag that its number tells
pub verdict_is : (words : List ℕ) (rule : Rule) (p : Program) (flag : Option ℕ) (q : Request) (text : List ℕ) {told first last : ℕ} → Holds words rule p
    → told ≡ flag_told rule.fields flag → nat_abs q.start ≡ first → nat_abs q.start + nat_abs q.steps ≡ last
    → check_list (limits q.sizes (fields_in words rule) told first last) text ≡ check_list (limits_of p flag q) text
unfolding fields_in
verdict_is words rule p flag q text h e a b =
    let told_is = e ∙ ap (λ (n : ℕ). flag_told n flag) (sym (held_fields p h)) in
    (λ i. check_list (record { sizes = q.sizes; fields = sym h.fields i; flag = some (told_is i); first = sym a i; last = sym b i }) text)
    ∙ told_check flag (limits_of p flag q) text

-- and the sizes of an admitted run are as the check asks
first_holds : (t : Bool) (r : Refusal) → (if not t then refusal 20 0 else r).number ≡ 0 → t ≡ true
first_holds true r e = refl
first_holds false r e = absurd (omega arith)

sizes_hold : (p : Program) (q : Request) → (admission p q).number ≡ 0 → good_sizes p q.sizes ≡ true
unfolding admission
sizes_hold p q e = first_holds (good_sizes p q.sizes) _ e

pub dimensions_are : (p : Program) (q : Request) → p.dims ≤ 3 → (admission p q).number ≡ 0 → Dimensions q.sizes
unfolding good_sizes
dimensions_are p q d e =
    let x = and_both (eqb (length q.sizes) p.dims && all_between 1 4096 q.sizes) (leb (product q.sizes) 1048576) (sizes_hold p q e) in
    let y = and_both (eqb (length q.sizes) p.dims) (all_between 1 4096 q.sizes) x.0 in
    let z = eqb-true (length q.sizes) p.dims y.0 in
    record { few = omega arith; each = y.1 }

-- a list that is not refused passes
pub checked_passes : {q : Limits} {text : List ℕ} {u : Unit {0}} → ChecksLines q text (Ok u) → LinePasses q none 1 (said text)
unfolding check_list
checked_passes c = record { is = ap (λ (v : Verdict). v.number) (sym c.is) }

-- ---- the cursor

abbrev is_at : Optional Block → Bool
is_at None = false
is_at (Some b) = true

abbrev at_time : ℕ → ℕ → Block
at_time t behind = record { time = t; behind = behind }

-- of a list that passes: what stands before `at` sets nothing from the time `now` on, and a block begins at `at`, or the list ends there
pub record Reached (q : Limits) (sizes : List ℕ) (fields : ℕ) (text : List ℕ) (now at : ℕ) : Type 0 where
  pub before : Option ℕ
  pub number : ℕ
  pub passes : LinePasses q before number (said (drop at text))
  pub skips : (u : ℕ) → now ≤ u → (g : List ℤ) → set_block sizes fields text u g ≡ set_lines sizes fields u false g (said (drop at text))
  pub opens : AtBlock (said (drop at text))
  -- the block there is of the time `now` or later
  pub ahead : (t : ℕ) (ss : List Said) → said (drop at text) ≡ time t ∷ ss → now ≤ t

-- a block begins at `at`, and its cells' lines at `behind`
pub record Lines (text : List ℕ) (at t behind : ℕ) : Type 0 where
  pub is : said (drop at text) ≡ time t ∷ said (drop behind text)

-- what a block at the head sets, at its time and at others
block_here : (sizes : List ℕ) (fields t : ℕ) (g : List ℤ) (ss : List Said) → set_lines sizes fields t false g (time t ∷ ss) ≡ set_lines sizes fields t true g ss
unfolding set_lines
block_here sizes fields t g ss = ap (λ (b : Bool). set_lines sizes fields t b g ss) (eq-eqb t t refl)

block_other : (sizes : List ℕ) (fields t u : ℕ) (g : List ℤ) (ss : List Said) → (t ≡ u → ⊥) → set_lines sizes fields u false g (time t ∷ ss) ≡ set_lines sizes fields u false g ss
unfolding set_lines
block_other sizes fields t u g ss d = ap (λ (b : Bool). set_lines sizes fields u b g ss) (ne_eqb t u d)

start_opens : (q : Limits) (ss : List Said) → LinePasses q none 1 ss → AtBlock ss
start_opens q [] p = tt
start_opens q (bad ∷ ss) p = let w = (passes_first q none 1 bad ss p).0 in absurd (omega arith)
start_opens q (time t ∷ ss) p = tt
start_opens q (cell is vs ∷ ss) p = let w = (passes_first q none 1 (cell is vs) ss p).0 in absurd (omega arith)

module _ (q : Limits) (sizes : List ℕ) (fields : ℕ) (text : List ℕ) where
  -- at the list's beginning
  pub reached_start : LinePasses q none 1 (said text) → Reached q sizes fields text q.first 0
  unfolding set_block
  reached_start p =
      record {
        before = none;
        number = 1;
        passes = p;
        skips = λ u l g. refl;
        opens = start_opens q (said text) p;
        ahead = λ t ss e. starts_told q none t (passes_first q none 1 (time t) ss (subst (LinePasses q none 1) e p)).0;
      }

  -- no block of this time begins here: the cursor stays
  pub reached_on : {now at : ℕ} → Reached q sizes fields text now at → ((t : ℕ) (ss : List Said) → said (drop at text) ≡ time t ∷ ss → now < t) → Reached q sizes fields text (now + 1) at
  reached_on w later =
      record {
        before = w.before;
        number = w.number;
        passes = w.passes;
        skips = λ u l g. w.skips u (omega arith) g;
        opens = w.opens;
        ahead = λ t ss e. omega (arith, later t ss e);
      }

  module _ {now at : ℕ} (w : Reached q sizes fields text now at) {r : Optional Block} (n : NextTime text at r) where
    -- no block is due: no time from now on has one
    pub none_due : r ≡ None → (u : ℕ) → now ≤ u → (g : List ℤ) → set_block sizes fields text u g ≡ g
    none_due e u l g = w.skips u l g ∙ by (said (drop at text)) refl w.opens
      where
        by : (ss : List Said) → said (drop at text) ≡ ss → AtBlock ss → set_lines sizes fields u false g (said (drop at text)) ≡ g
        by [] f o = ap (set_lines sizes fields u false g) f ∙ set_nothing sizes fields u false g
        by (bad ∷ ss) f o = absurd o
        by (time t ∷ ss) f o = never (ap is_at (sym e ∙ (n.begins t ss f).is))
        by (cell is vs ∷ ss) f o = absurd o

    module _ {t behind : ℕ} (e : r ≡ Some (record { time = t; behind = behind })) where
      -- the lines from here on
      lines_here : Lines text at t behind
      lines_here = by (said (drop at text)) refl w.opens
        where
          by : (ss : List Said) → said (drop at text) ≡ ss → AtBlock ss → Lines text at t behind
          by [] f o = never (ap is_at (sym (n.ends f) ∙ e))
          by (bad ∷ ss) f o = absurd o
          by (time u ∷ ss) f o =
              let b = n.begins u ss f in
              let d : Some (at_time u b.behind) ≡ Some (at_time t behind) = sym b.is ∙ e in
              let f₂ : at_time u b.behind ≡ at_time t behind = cc in
              let x : u ≡ t = ap (λ (k : Block). k.time) f₂ in
              let y : b.behind ≡ behind = ap (λ (k : Block). k.behind) f₂ in
              record { is = f ∙ ap₂ (λ (v : ℕ) (z : List Said). time v ∷ z) x (sym b.rest ∙ ap (λ (i : ℕ). said (drop i text)) y) }
          by (cell is vs ∷ ss) f o = absurd o

      -- a later block is due: this time has none
      pub later_due : (u : ℕ) → now ≤ u → u < t → (g : List ℤ) → set_block sizes fields text u g ≡ g
      later_due u l m g =
          w.skips u l g ∙ ap (set_lines sizes fields u false g) lines_here.is
          ∙ not_yet q sizes fields (said (drop behind text)) w.before w.number u t (subst (LinePasses q w.before w.number) lines_here.is w.passes) m g

      module _ (l : now ≤ t) (z : q.sizes ≡ sizes) {r' : ℕ} {g h : List ℤ} (s : SetsLines sizes fields text behind r' g h) where
        block : SetBlock q sizes fields t text behind r' g h
        block = s.is q t (suc w.number) z (passes_first q w.before w.number (time t) (said (drop behind text)) (subst (LinePasses q w.before w.number) lines_here.is w.passes)).1

        -- the block that is due is set
        pub due_set : set_block sizes fields text t g ≡ h
        due_set = w.skips t l g ∙ ap (set_lines sizes fields t false g) lines_here.is ∙ block_here sizes fields t g (said (drop behind text)) ∙ block.sets

        -- and the cursor moves on
        pub reached_next : Reached q sizes fields text (t + 1) r'
        reached_next =
            record {
              before = some t;
              number = block.number;
              passes = block.passes;
              skips = λ u m k.
                  w.skips u (omega arith) k ∙ ap (set_lines sizes fields u false k) lines_here.is
                  ∙ block_other sizes fields t u k (said (drop behind text)) (λ y. let v = y in omega arith) ∙ block.skips u k;
              opens = block.opens;
              ahead = λ u ss e. omega (arith, rises_told q t u (passes_first q (some t) block.number (time u) ss (subst (LinePasses q (some t) block.number) e block.passes)).0);
            }
