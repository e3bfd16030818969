-- A run under a plan is the full run: where the room is right and the plan is accepted, it leaves what the full run of the whole grid leaves, also where that
-- is refused.
use Prim.Native.Nat.{ℕ}
use mathlib.Core.Path.{◌≡◌, refl, sym, ap, ◌∙◌}
use mathlib.Core.Bool.{Bool, true, false}
use mathlib.Core.Option.{Option}
use lib.Dec.{eqb}
use lib.IntN.{pos}
use borrow.Author.Tests.{eqb-true, eqb-false, ne_eqb}
use Rattle.grammar.specs.Source.{Accepted}
use Rattle.grammar.specs.Checking.{accepted, read_source}
use Rattle.move_meaning.specs.Profile.{profile_flag}
use Rattle.run_meaning.specs.Report.{full}
use Rattle.list_meaning.specs.ListChecking.{Turned}
use Rattle.run_calls.specs.Running.{admitted}
use Rattle.run_calls.proofs.Theorems.RunningLaws.{run_refused}
use Rattle.run_calls.specs.Services.{run_begins, run_read, run_source}
use Rattle.run_calls.specs.Calls.{NameForm, fits, asked, read_lent, run_left}
use Rattle.band_meaning.specs.Plans.{plan_fits}
use Rattle.run_source.proofs.RunLaws.{left_by, room_kept, marks_kept, counts_kept}
use Rattle.band_run.specs.BandedRun.{room_right, admitted_under, BandedLent, BandedLeft, under, left_refused, banded_left}
use Rattle.band_run.proofs.RefusalLaws.{under_as}
use Rattle.band_run.proofs.LeavingLaws.{refused_with, left_none, left_some}

module _ {N : Type 0} (form : NameForm N) (l : BandedLent N) (a : Accepted) (is : read_lent form l.run ≡ accepted a) where
  abbrev flag : Option ℕ
  flag = profile_flag l.run.source a

  abbrev as_run : Turned
  as_run = admitted a.program flag (asked l.run)

  -- a full run that is refused leaves the same
  refused_as : (as_run.number ≡ 0 → ⊥) → (left_refused form l as_run.number as_run.place as_run.line).left ≡ run_left form full l.run
  unfolding run_source
  refused_as out =
      let m = l.run.memory in
      let source = l.run.source in
      let fit = fits form l.run in
      let q = asked l.run in
      let closed : run_begins source q (read_source fit source) ≡ false = ap (run_begins source q) is ∙ ne_eqb as_run.number 0 out in
      (left_by {form = form} {manner = full} {l = l.run} {said = refused_with as_run.number as_run.place as_run.line} {m = (left_refused form l as_run.number as_run.place as_run.line).left.memory}
      (sym (ap (run_read full source q) is ∙ run_refused a.program flag q full out)) refl refl
      (room_kept (pos 0) fit source q m.scratch closed) (marks_kept full fit source q m.marks closed) (counts_kept full fit source q m.counts closed)).is

  pub banded_is_full : room_right a.program l.run.sizes (under l) ≡ true → plan_fits a.program l.run.sizes l.held l.plan ≡ true
      → (banded_left form l).left ≡ run_left form full l.run
  banded_is_full right plan = by (eqb as_run.number 0) refl
    where
      same : admitted_under a.program flag (asked l.run) (under l) ≡ as_run
      same = under_as a.program flag (asked l.run) (under l) right plan

      by : (t : Bool) → eqb as_run.number 0 ≡ t → (banded_left form l).left ≡ run_left form full l.run
      by true z = sym (ap (λ (x : BandedLeft N). x.left) (left_none form l a is (ap (λ (x : Turned). x.number) same ∙ eqb-true as_run.number 0 z)))
      by false z =
          let out = eqb-false as_run.number 0 z in
          sym (ap (λ (x : BandedLeft N). x.left) (left_some form l a is same out)) ∙ refused_as out
