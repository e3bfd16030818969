-- What loading a source promises, if it is accepted: it stands in the lent memory, with the numbers of its rule.
use Prim.Native.Nat.{ℕ, ◌+◌}
use native.Mathlib.Omega.{arith}
use mathlib.Core.Path.{◌≡◌, refl, sym, ap, ◌∙◌, subst}
use mathlib.Core.Bool.{Bool, true}
use mathlib.Core.List.{List}
use lib.ListN.{length}
use Rattle.token.specs.Kind.{kind}
use Rattle.token.specs.Scanning.{scan, scan_of}
use Rattle.program.specs.declared.Rule.{Rule}
use Rattle.grammar.specs.Source.{Accepted, has_kind}
use Rattle.grammar.specs.Checking.{accepted, rooms_fit, read_source, room_left, words_after}
use Rattle.grammar.specs.Promises.Flat.{names_after}
use Rattle.grammar.specs.Promises.Traces.{accepted_by, Trace}
use Rattle.cell_meaning.specs.Promises.Stands.{Holds}
use Rattle.read_links.proofs.Theorems.Linking.{Linked, linking}
use Rattle.read_links.proofs.Theorems.Accepted.{Parsed, holds}
use Rattle.program.specs.Promises.Fitting.{Sized}
use Rattle.read_source.specs.Promises.Promises.{RuleIs, Loads, Checks}
use Rattle.move_meaning.proofs.Theorems.InProfile.{head_at}
use Rattle.move_profile.specs.Promises.Standing.{Stood}

module _ {source ws ns : List ℕ} {known : Bool} {rule : Rule} {n place : ℕ} {ws' ns' : List ℕ}
    (checked : Checks (rooms_fit (length ws) (length ns)) source ws ns n place ws' ns') (loaded : Loads source ws ns known rule) (sure : known ≡ true) where
  pub linked_by : (t : Trace source) → Linked source t
  linked_by = linking source (loaded.short sure)

  abbrev pub parsed_by : (t : Trace source) → Parsed source (accepted_by t)
  parsed_by t = record { trace = t; is = refl; linked = linked_by t }

  pub words_by : (t : Trace source) → ws' ≡ (accepted_by t).words
  unfolding words_after
  words_by t = checked.words ∙ ap (room_left 0 ws (λ (a : Accepted). a.words)) (loaded.reads sure t)

  names_by : (t : Trace source) → ns' ≡ (accepted_by t).names
  unfolding names_after
  names_by t = checked.names ∙ ap (room_left 0 ns (λ (a : Accepted). a.names)) (loaded.reads sure t)

  pub rule_by : (t : Trace source) → RuleIs source t rule
      → rule ≡ record { tokens = (scan_of (scan source)).count; base = t.s₁.at + 2; body = t.s₂.at; dims = t.declaration.cell.dims; fields = length t.declaration.fields; slots = t.s₃.count; timed = has_kind kind.time t.s₃.words (scan_of (scan source)).count }
  rule_by t y = rw (y.tokens, y.base, y.body, y.dims, y.fields, y.slots, y.timed)

  sized_by : (t : Trace source) → RuleIs source t rule → Sized (length ws') rule
  sized_by t y =
      let linked = linked_by t in
      rw (words_by t)
      (record {
        table = omega (arith, y.tokens, linked.few_tokens, linked.size);
        tokens = omega (arith, y.tokens, linked.few_tokens);
        base = omega (arith, y.base, linked.fields_inside, linked.inside, linked.few_tokens);
        body = omega (arith, y.body, y.tokens, linked.inside);
        slots = omega (arith, y.slots, linked.few_names);
        fields = omega (arith, y.fields, linked.few_fields);
        dims = omega (arith, y.dims, linked.few_dims);
      })

  pub stood_by : (t : Trace source) → RuleIs source t rule → Stood source ws' ns' rule (accepted_by t)
  stood_by t y =
      record {
        words_are = words_by t;
        names_are = names_by t;
        tokens = y.tokens;
        body = y.body ∙ sym (head_at source (accepted_by t) (parsed_by t));
        holds =
            subst (λ (ws : List ℕ). Holds ws rule (accepted_by t).program) (sym (words_by t))
            (subst (λ (r : Rule). Holds (accepted_by t).words r (accepted_by t).program) (sym (rule_by t y)) (holds source (accepted_by t) (parsed_by t)));
      }

  -- the numbers of the rule fit the table
  pub sized : Sized (length ws') rule
  sized = let g = loaded.given sure in sized_by g.0 g.1

  -- the source stands in the memory, whatever it is read as
  pub stood : (a : Accepted) → read_source (rooms_fit (length ws) (length ns)) source ≡ accepted a → Stood source ws' ns' rule a
  stood a e =
      let g = loaded.given sure in
      let q = loaded.reads sure g.0 in
      let same : accepted_by g.0 ≡ a = cc in
      subst (Stood source ws' ns' rule) same (stood_by g.0 g.1)
