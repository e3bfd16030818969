use mathlib.Core.Path.{◌≡◌, ◌∙◌, ap, refl}
use Rattle.program.specs.Refusal.{Refusal}
use Rattle.run_source.specs.Promises.Sourcewise.{run_stopped, not_begun}
use Rattle.run_calls.specs.Calls.{flat_names, memory, lent}
use Rattle.run_source.specs.Promises.Public.{manner_of}
use Rattle.run_source.proofs.RunLaws.{unlisted, listed, read_times, run_agrees, run_ranges}
use Rattle.run_source.proofs.running.run.Goals as goal

pub returns-then-not-is_built_in : goal.returns-then-not-is_built_in
returns-then-not-is_built_in c =
    let ran = unlisted c.args.list.now c.is_built_in.ensures (manner_of c.args.manner c.args.marks.now) (lent _ _ _ (memory _ _ _ c.args.scratch.now c.args.marks.now c.args.counts.now) c.args.values.now c.args.start c.args.steps c.args.counted c.args.field) refl c.if-not-is_built_in.true-raw in
    let stop : c.from-then-not-is_built_in.result ≡ record { number = 1; place = 0; line = 0; cell = 0; steps = 0; count = 0 } =
    c.from-then-not-is_built_in.ensures ∙ ap not_begun (c.from.ensures ∙ ap (λ (x : Refusal). run_stopped x.number x.place 0) c.new.ensures) in
    rw stop
    record {
      run_leaves = ran;
      agrees = run_agrees flat_names c.args.manner _ ran;
      ranges = run_ranges flat_names _ _ ran;
    }

pub returns : goal.returns
returns c =
    let ran = read_times c.ranges.start c.ranges.steps (listed c.args.list.now c.is_built_in.ensures c.if-not-is_built_in.false-raw c.run_listed.ensures) in
    record {
      run_leaves = ran;
      agrees = run_agrees flat_names c.args.manner _ ran;
      ranges = run_ranges flat_names _ _ ran;
    }
