-- The laws of expressions, one for each way that their evaluators go.
use Prim.Native.Nat.{ℕ, zero, suc, ◌+◌, ◌≤◌, ◌<◌}
use native.Mathlib.Decide.{dec_lt}
use native.Mathlib.Omega.{arith}
use mathlib.Core.Path.{◌≡◌, refl, sym, ap, ◌∙◌, subst}
use mathlib.Core.Bool.{Bool, true, false}
use mathlib.Core.List.{List}
use lib.IntN.{ℤ}
use Rattle.token.specs.Kind.{level_of}
use Rattle.value.specs.declared.Value.{Value}
use Rattle.automaton.specs.Step.{Outcome, result, fault}
use Rattle.program.specs.Syntax.{Expr, element, unary, binary}
use Rattle.cell_meaning.specs.Operators.{placed, apply_unary, compare, apply_binary}
use Rattle.cell_meaning.specs.Evaluation.{Env, element_at, eval}
use Rattle.cell_meaning.specs.Promises.Stands.{array_in, is_unary, parsed, decode_expression, decode_chain, decode_operand, decode_primary, decode_bracket}
use Rattle.cell_meaning.specs.Links.{Table}
use Rattle.cell_operands.specs.Promises.Working.{EvaluationResult, EvaluatedTo, Failed, told_of, OperandOnward, primary_from, EvalsExpression, EvalsOperand, EvalsPrimary, EvalsBracket, Leaf, Quick, Joins}
use Rattle.cell_operands.proofs.OperatorLaws.{level_some, told_compare}
use Rattle.token.proofs.Levels.{level_few}
use Rattle.cell_operands.proofs.DecodingLaws.{never, went_on, was_unary, was_paren, was_name, was_array, was_bracket, was_expression, was_end, was_more}
use Rattle.cell_operands.proofs.PrimaryLaws.{found_next, as_value, result_of, fault_of}
use Rattle.cell_operands.proofs.LeafLaws.{lost, bare}

-- ---- what an answer says of the outcome

further : (o : Outcome ℤ) (at from past n : ℕ) → at ≤ from → (from < past) × (past ≤ n) → OperandOnward at n (told_of o past)
further (result z) at from past n l y = (omega arith, omega arith)
further (fault k p) at from past n l y = tt

module _ (t : Table) (env : Env) (vars vs : List ℤ) where
  abbrev ev : Expr → Outcome ℤ
  ev e = eval env vars vs e

  as_fault : (e : Expr) (next : ℕ) {r : EvaluationResult} {k p : ℕ} → r ≡ Failed k p → ev e ≡ fault k p → r ≡ told_of (ev e) next
  as_fault e next h x = h ∙ sym (ap (λ (o : Outcome ℤ). told_of o next) x)

  -- ---- evaluation's clauses, with the outcome of the operands known

  module _ (op place : ℕ) where
    unary_faults : (e : Expr) {k p : ℕ} → ev e ≡ fault k p → ev (unary op place e) ≡ fault k p
    unfolding eval
    unary_faults e x = simp x

    unary_result : (e : Expr) {z : ℤ} → ev e ≡ result z → ev (unary op place e) ≡ placed place (apply_unary op z)
    unfolding eval
    unary_result e x = simp x

    left_faults : (d e : Expr) {k p : ℕ} → ev d ≡ fault k p → ev (binary op place d e) ≡ fault k p
    unfolding eval
    left_faults d e x = simp x

    right_faults : (d e : Expr) {z : ℤ} {k p : ℕ} → ev d ≡ result z → ev e ≡ fault k p → ev (binary op place d e) ≡ fault k p
    unfolding eval
    right_faults d e x y = simp (x, y)

    both_result : (d e : Expr) {y z : ℤ} → ev d ≡ result y → ev e ≡ result z → ev (binary op place d e) ≡ placed place (apply_binary op y z)
    unfolding eval
    both_result d e x y = simp (x, y)

  module _ (place : ℕ) (zs : List ℤ) where
    element_faults : (e : Expr) {k p : ℕ} → ev e ≡ fault k p → ev (element place zs e) ≡ fault k p
    unfolding eval
    element_faults e x = simp x

    element_result : (e : Expr) {z : ℤ} → ev e ≡ result z → ev (element place zs e) ≡ element_at place zs z
    unfolding eval
    element_result e x = simp x

  -- a fault of what a chain has read is a fault of all that it reads
  module _ (level next : ℕ) (e : Expr) (k p : ℕ) where
    chain_fault : (f here : ℕ) (left : Expr) → decode_chain f t level left here ≡ parsed e next → ev left ≡ fault k p → ev e ≡ fault k p
    unfolding decode_chain
    chain_fault zero here left q x = never q
    chain_fault (suc f) here left q x = go (chain_fault f) (dec_lt (level_of (t.kind here)) level)
      where
        go : ((here : ℕ) (left : Expr) → decode_chain f t level left here ≡ parsed e next → ev left ≡ fault k p → ev e ≡ fault k p) → Dec (level_of (t.kind here) < level) → ev e ≡ fault k p
        go again (yes l) = ap ev (sym (was_end t here level next e l left (suc f) q).0) ∙ x
        go again (no l) =
            let s = went_on t here level next e (omega arith) left f q in
            again s.1 (binary (t.kind here) (t.place here) left s.0) s.3 (left_faults (t.kind here) (t.place here) left s.0 x)

  module _ (n at : ℕ) where
    -- ---- brackets

    module _ (close : ℕ) {r : EvaluationResult} (x : EvalsExpression t env vars vs n (at + 1) 1 r) where
      pub bracket_fault : {k p : ℕ} → r ≡ Failed k p → EvalsBracket t env vars vs n at close r
      bracket_fault {k} {p} h = record {
        says = λ fuel e next q.
            let s = was_bracket t at next e close fuel q in
            as_fault e next h (fault_of (ev e) s.1 (sym h ∙ x.says s.0 e s.1 s.2));
        onward = rw h tt;
      }

      module _ {v : Value} {past : ℕ} (h : r ≡ EvaluatedTo v past) {k : ℕ} (ek : k ≡ t.kind past) where
        pub bracket_closed : k ≡ close → past < n → EvalsBracket t env vars vs n at close (EvaluatedTo v (past + 1))
        bracket_closed kc l =
            let o : (at + 1 < past) × (past ≤ n) = rw h at x.onward in
            record { says = λ fuel e next q. go e next (was_bracket t at next e close fuel q); onward = (omega arith, omega arith) }
          where
            go : (e : Expr) (next : ℕ) → (f : ℕ) × (m : ℕ) × (decode_expression f t 1 (at + 1) ≡ parsed e m) × (t.kind m ≡ close) × (next ≡ m + 1) → EvaluatedTo v (past + 1) ≡ told_of (ev e) next
            go e next (f, m, q, kc', hn) =
                let s = result_of (ev e) m (sym h ∙ x.says f e m q) in
                as_value env vars vs e (past + 1) next s.0 (hn ∙ ap (λ (i : ℕ). i + 1) s.1)

        pub bracket_open : (k ≡ close → ⊥) → {a p : ℕ} → EvalsBracket t env vars vs n at close (Failed a p)
        bracket_open kc {a} {p} = record { says = λ fuel e next q. absurd (go e next (was_bracket t at next e close fuel q)); onward = tt }
          where
            go : (e : Expr) (next : ℕ) → (f : ℕ) × (m : ℕ) × (decode_expression f t 1 (at + 1) ≡ parsed e m) × (t.kind m ≡ close) × (next ≡ m + 1) → ⊥
            go e next (f, m, q, kc', hn) =
                let s = result_of (ev e) m (sym h ∙ x.says f e m q) in
                kc (ek ∙ ap (λ (i : ℕ). t.kind i) (sym s.1) ∙ kc')

    -- ---- primaries

    module _ {k : ℕ} (ek : k ≡ t.kind at) where
      pub primary_paren : {r : EvaluationResult} → k ≡ 40 → EvalsBracket t env vars vs n at 41 r → EvalsPrimary t env vars vs n at r
      primary_paren {r} kp b = record { says = λ fuel e next q. let s = was_paren t at next e (sym ek ∙ kp) fuel q in b.says s.0 e next s.1; onward = b.onward }

      -- by the short way, where no name stands, or that of no array constant
      pub primary_quick : {r : EvaluationResult} → (k ≡ 40 → ⊥) → (k ≡ 1 → t.word2 at ≡ 2 → ⊥) → Quick t env vars vs n at 5 r → EvalsPrimary t env vars vs n at r
      primary_quick kp na x = x.only refl (λ z. kp (ek ∙ z)) (λ y z. na (ek ∙ y) z)

      module _ (kn : k ≡ 1) {w : ℕ} (ew : w ≡ t.word2 at) where
        module _ (wa : w ≡ 2) where
          Went : (e : Expr) (next : ℕ) → Type 0
          Went e next = (t.kind (at + 1) ≡ 91) × (f : ℕ) × (e₀ : Expr) × (decode_bracket f t 93 (at + 1) ≡ parsed e₀ next) × (e ≡ element (t.place (at + 1)) (array_in t (t.word3 at)) e₀)

          went : (fuel : ℕ) (e : Expr) (next : ℕ) → decode_primary fuel t at ≡ parsed e next → Went e next
          unfolding Went
          went fuel e next q = let s = was_name t at next e (sym ek ∙ kn) fuel q in was_array t at next e (sym ew ∙ wa) s.0 s.1

          pub primary_bare : {j a p : ℕ} → j ≡ t.kind (at + 1) → (j ≡ 91 → ⊥) → EvalsPrimary t env vars vs n at (Failed a p)
          unfolding Went
          primary_bare ej nb = record { says = λ fuel e next q. absurd (nb (ej ∙ (went fuel e next q).0)); onward = tt }

          module _ {r : EvaluationResult} (b : EvalsBracket t env vars vs n (at + 1) 93 r) where
            pub primary_element_fault : {a p : ℕ} → r ≡ Failed a p → EvalsPrimary t env vars vs n at r
            unfolding Went
            primary_element_fault {a} {p} h = record { says = λ fuel e next q. go e next (went fuel e next q); onward = rw h tt }
              where
                go : (e : Expr) (next : ℕ) → Went e next → r ≡ told_of (ev e) next
                go e next (k91, f, e₀, q, he) =
                    as_fault e next h (ap ev he ∙ element_faults (t.place (at + 1)) (array_in t (t.word3 at)) e₀ (fault_of (ev e₀) next (sym h ∙ b.says f e₀ next q)))

            pub primary_element : {i : Value} {past : ℕ} {o : EvaluationResult} → r ≡ EvaluatedTo i past → o ≡ told_of (element_at (t.place (at + 1)) (array_in t (t.word3 at)) i.n) past
                → EvalsPrimary t env vars vs n at o
            unfolding Went
            primary_element {i} {past} {o} h ho = record {
              says = λ fuel e next q. go e next (went fuel e next q);
              onward = rw ho (further (element_at (t.place (at + 1)) (array_in t (t.word3 at)) i.n) at (at + 1) past n (omega arith) (rw h at b.onward));
            }
              where
                go : (e : Expr) (next : ℕ) → Went e next → o ≡ told_of (ev e) next
                go e next (k91, f, e₀, q, he) =
                    let s = result_of (ev e₀) next (sym h ∙ b.says f e₀ next q) in
                    ho ∙ ap (told_of (element_at (t.place (at + 1)) (array_in t (t.word3 at)) i.n)) (sym s.1)
                    ∙ sym (ap (λ (x : Outcome ℤ). told_of x next) (ap ev he ∙ element_result (t.place (at + 1)) (array_in t (t.word3 at)) e₀ s.0))

    -- ---- operands

    module _ {k : ℕ} (ek : k ≡ t.kind at) {b : Bool} (eb : b ≡ is_unary k) where
      module _ {r : EvaluationResult} (h : b ≡ true) (x : EvalsPrimary t env vars vs n (at + 1) r) where
        Unary : (e : Expr) (next : ℕ) → Type 0
        Unary e next = (f : ℕ) × (e₀ : Expr) × (decode_primary f t (at + 1) ≡ parsed e₀ next) × (e ≡ unary (t.kind at) (t.place at) e₀)

        unary_read : (fuel : ℕ) (e : Expr) (next : ℕ) → decode_operand fuel t at ≡ parsed e next → Unary e next
        unfolding Unary
        unary_read fuel e next q = was_unary t at next e (ap is_unary (sym ek) ∙ sym eb ∙ h) fuel q

        before_fault : {a p : ℕ} → r ≡ Failed a p → EvalsOperand t env vars vs n at r
        unfolding Unary
        before_fault {a} {p} g = record { says = λ fuel e next q. go e next (unary_read fuel e next q); onward = rw g tt }
          where
            go : (e : Expr) (next : ℕ) → Unary e next → r ≡ told_of (ev e) next
            go e next (f, e₀, q, he) = as_fault e next g (ap ev he ∙ unary_faults (t.kind at) (t.place at) e₀ (fault_of (ev e₀) next (sym g ∙ x.says f e₀ next q)))

        before_found : {v : Value} {past : ℕ} {o : EvaluationResult} → r ≡ EvaluatedTo v past → o ≡ told_of (placed (t.place at) (apply_unary k v.n)) past → EvalsOperand t env vars vs n at o
        unfolding Unary
        before_found {v} {past} {o} g ho = record {
          says = λ fuel e next q. go e next (unary_read fuel e next q);
          onward = rw ho (further (placed (t.place at) (apply_unary k v.n)) at (at + 1) past n (omega arith) (rw g at x.onward));
        }
          where
            go : (e : Expr) (next : ℕ) → Unary e next → o ≡ told_of (ev e) next
            go e next (f, e₀, q, he) =
                let s = result_of (ev e₀) next (sym g ∙ x.says f e₀ next q) in
                ho ∙ ap (told_of (placed (t.place at) (apply_unary k v.n))) (sym s.1)
                ∙ sym (ap (λ (y : Outcome ℤ). told_of y next) (ap ev he ∙ unary_result (t.kind at) (t.place at) e₀ s.0 ∙ ap (λ (i : ℕ). placed (t.place at) (apply_unary i v.n)) (sym ek)))

    module _ {k : ℕ} (ek : k ≡ t.kind at) {from : ℕ} (ef : from ≡ primary_from k at) {r : EvaluationResult} (x : EvalsPrimary t env vars vs n from r) where
      behind : is_unary k ≡ true → EvalsPrimary t env vars vs n (at + 1) r
      behind h = subst (λ (i : ℕ). EvalsPrimary t env vars vs n i r) (ef ∙ simp h) x

      here_too : is_unary k ≡ false → EvalsPrimary t env vars vs n at r
      here_too h = subst (λ (i : ℕ). EvalsPrimary t env vars vs n i r) (ef ∙ simp h) x

      pub operand_fault : {a p : ℕ} → r ≡ Failed a p → EvalsOperand t env vars vs n at r
      operand_fault {a} {p} g = go (is_unary k) refl
        where
          go : (b : Bool) → is_unary k ≡ b → EvalsOperand t env vars vs n at r
          go true e = before_fault ek {b = is_unary k} refl e (behind e) g
          go false e = bare t env vars vs n at ek {b = is_unary k} refl e (here_too e)

      module _ {b : Bool} (eb : b ≡ is_unary k) where
        pub operand_bare : {v : Value} {past : ℕ} → b ≡ false → r ≡ EvaluatedTo v past → EvalsOperand t env vars vs n at (EvaluatedTo v past)
        operand_bare h g = subst (EvalsOperand t env vars vs n at) g (bare t env vars vs n at ek eb h (here_too (sym eb ∙ h)))

        pub operand_unary : {v : Value} {past : ℕ} {o : EvaluationResult} → b ≡ true → r ≡ EvaluatedTo v past → o ≡ told_of (placed (t.place at) (apply_unary k v.n)) past → EvalsOperand t env vars vs n at o
        operand_unary h g ho = before_found ek eb h (behind (sym eb ∙ h)) g ho

    -- ---- operators

    module _ (level : ℕ) where
      -- what is read up to here comes to `left`, and decoding goes on from there
      pub record Chain (left : Value) (here : ℕ) : Type 0 where
        pub past : at < here
        pub within : here ≤ n
        pub says : (fuel : ℕ) (e : Expr) (next : ℕ) → decode_expression fuel t level at ≡ parsed e next
            → (f : ℕ) × (l : Expr) × (decode_chain f t level l here ≡ parsed e next) × (ev l ≡ result left.n)

      abbrev First : Expr → ℕ → Type 0
      First e next = (f : ℕ) × (e₀ : Expr) × (m : ℕ) × (decode_operand f t at ≡ parsed e₀ m) × (decode_chain f t level e₀ m ≡ parsed e next)

      pub first_fault : {r : EvaluationResult} {k p : ℕ} → EvalsOperand t env vars vs n at r → r ≡ Failed k p → EvalsExpression t env vars vs n at level r
      first_fault {r} {k} {p} x h = record { says = λ fuel e next q. go e next (was_expression t at next e level fuel q); onward = rw h tt }
        where
          go : (e : Expr) (next : ℕ) → First e next → r ≡ told_of (ev e) next
          go e next (f, e₀, m, q, q') = as_fault e next h (chain_fault level next e k p f m e₀ q' (fault_of (ev e₀) m (sym h ∙ x.says f e₀ m q)))

      pub first_found : {r : EvaluationResult} {v : Value} {past : ℕ} → EvalsOperand t env vars vs n at r → r ≡ EvaluatedTo v past → Chain v past
      first_found {r} {v} {past} x h =
          let o : (at < past) × (past ≤ n) = rw h at x.onward in
          record { past = o.0; within = o.1; says = λ fuel e next q. go e next (was_expression t at next e level fuel q) }
        where
          go : (e : Expr) (next : ℕ) → First e next → (f : ℕ) × (l : Expr) × (decode_chain f t level l past ≡ parsed e next) × (ev l ≡ result v.n)
          go e next (f, e₀, m, q, q') =
              let s = result_of (ev e₀) m (sym h ∙ x.says f e₀ m q) in
              (f, e₀, ap (decode_chain f t level e₀) (sym s.1) ∙ q', s.0)

      module _ {left : Value} {here k own : ℕ} (ch : Chain left here) (ek : k ≡ t.kind here) (eo : own ≡ level_of k) where
        abbrev Read : Expr → ℕ → Type 0
        Read e next = (f : ℕ) × (l : Expr) × (decode_chain f t level l here ≡ parsed e next) × (ev l ≡ result left.n)

        pub chain_end : own < level → EvalsExpression t env vars vs n at level (EvaluatedTo left here)
        chain_end u = record { says = λ fuel e next q. go e next (ch.says fuel e next q); onward = (ch.past, ch.within) }
          where
            go : (e : Expr) (next : ℕ) → Read e next → EvaluatedTo left here ≡ told_of (ev e) next
            go e next (f, l, q, x) =
                let s = was_end t here level next e (rw (← ek, ← eo) u) l f q in
                as_value env vars vs e here next (ap ev (sym s.0) ∙ x) (sym s.1)

        module _ {r : EvaluationResult} (u : level ≤ own) (x : EvalsExpression t env vars vs n (here + 1) (own + 1) r) where
          -- what a decoding that succeeds read next: the chain's part, the right side, and the rest
          More : (e : Expr) (next : ℕ) → Type 0
          More e next = (f : ℕ) × (l : Expr) × (right : Expr) × (m : ℕ) × (ev l ≡ result left.n) × (r ≡ told_of (ev right) m) × (decode_chain f t level (binary k (t.place here) l right) m ≡ parsed e next)

          more : (fuel : ℕ) (e : Expr) (next : ℕ) → decode_expression fuel t level at ≡ parsed e next → More e next
          unfolding More
          more fuel e next q = go (ch.says fuel e next q)
            where
              go : Read e next → More e next
              go (f, l, q, y) =
                  let s = was_more t here level next e (rw (← ek, ← eo) u) l f q in
                  let z : r ≡ told_of (ev s.1) s.2 = x.says s.0 s.1 s.2 (rw (eo, ek) s.3) in
                  (s.0, l, s.1, s.2, y, z, rw ek s.4)

          pub right_fault : {a p : ℕ} → r ≡ Failed a p → EvalsExpression t env vars vs n at level r
          unfolding More
          right_fault {a} {p} h = record { says = λ fuel e next q. go e next (more fuel e next q); onward = rw h tt }
            where
              go : (e : Expr) (next : ℕ) → More e next → r ≡ told_of (ev e) next
              go e next (f, l, right, m, y, z, q) =
                  as_fault e next h (chain_fault level next e a p f m (binary k (t.place here) l right) q (right_faults k (t.place here) l right y (fault_of (ev right) m (sym h ∙ z))))

          module _ {b : Value} {past : ℕ} {o : EvaluationResult} (h : r ≡ EvaluatedTo b past) (ho : o ≡ told_of (placed (t.place here) (apply_binary k left.n b.n)) past) where
            -- the operator's outcome is that of what is read now
            Done : (e : Expr) (next : ℕ) → Type 0
            Done e next = (f : ℕ) × (l : Expr) × (ev l ≡ placed (t.place here) (apply_binary k left.n b.n)) × (decode_chain f t level l past ≡ parsed e next)

            done : (fuel : ℕ) (e : Expr) (next : ℕ) → decode_expression fuel t level at ≡ parsed e next → Done e next
            unfolding More Done
            done fuel e next q = go (more fuel e next q)
              where
                go : More e next → Done e next
                go (f, l, right, m, y, z, q) =
                    let s = result_of (ev right) m (sym h ∙ z) in
                    (f, binary k (t.place here) l right, both_result k (t.place here) l right y s.0, ap (decode_chain f t level (binary k (t.place here) l right)) (sym s.1) ∙ q)

            pub operator_fault : {a p : ℕ} → o ≡ Failed a p → EvalsExpression t env vars vs n at level o
            unfolding Done
            operator_fault {a} {p} g = record { says = λ fuel e next q. go e next (done fuel e next q); onward = rw g tt }
              where
                go : (e : Expr) (next : ℕ) → Done e next → o ≡ told_of (ev e) next
                go e next (f, l, y, q) =
                    as_fault e next g (chain_fault level next e a p f past l q (y ∙ fault_of (placed (t.place here) (apply_binary k left.n b.n)) past (sym g ∙ ho)))

            pub chain_more : {v : Value} {there : ℕ} → o ≡ EvaluatedTo v there → Chain v there
            unfolding Done
            chain_more {v} {there} g =
                let s = result_of (placed (t.place here) (apply_binary k left.n b.n)) past (sym g ∙ ho) in
                let y : (here + 1 < past) × (past ≤ n) = rw h at x.onward in
                let z = s.1 in
                let c = ch.past in
                record { past = omega arith; within = omega arith; says = λ fuel e next q. go s.0 s.1 e next (done fuel e next q) }
              where
                go : placed (t.place here) (apply_binary k left.n b.n) ≡ result v.n → past ≡ there → (e : Expr) (next : ℕ) → Done e next
                    → (f : ℕ) × (l : Expr) × (decode_chain f t level l there ≡ parsed e next) × (ev l ≡ result v.n)
                go s z e next (f, l, y, q) = (f, l, ap (decode_chain f t level l) (sym z) ∙ q, y ∙ s)

            pub chain_less : {v : Value} {there : ℕ} → o ≡ EvaluatedTo v there → (here < there) × (there ≤ n)
            chain_less {v} {there} g =
                let s = (result_of (placed (t.place here) (apply_binary k left.n b.n)) past (sym g ∙ ho)).1 in
                let y : (here + 1 < past) × (past ≤ n) = rw h at x.onward in
                (omega arith, omega arith)

  -- ---- the short way

  -- the operand behind an operator is its right side, where the next operator is no tighter
  quick_right : (n at own : ℕ) {r : EvaluationResult} {b : Value} {next k after : ℕ} → EvalsOperand t env vars vs n at r → r ≡ EvaluatedTo b next → k ≡ t.kind next → after ≡ level_of k → after ≤ own
      → EvalsExpression t env vars vs n at (own + 1) (EvaluatedTo b next)
  quick_right n at own x h ek ea l = chain_end n at (own + 1) (first_found n at (own + 1) x h) ek ea (omega arith)

  module _ (n at level : ℕ) where
    -- nothing is read yet; or a chain up to an operator
    pub data Pending (left : Value) (op own last here : ℕ) : Type 0 where
      first : op ≡ 0 → own ≡ 4 → here ≡ at → Pending left op own last here
      behind_operator : Chain n at level left last → last + 1 ≡ here → op ≡ t.kind last → own ≡ level_of op → level ≤ own → Pending left op own last here

    pub record Underway (left : Value) (op own last here : ℕ) : Type 0 where
      pub within : here ≤ n
      pub pending : Pending left op own last here

    pub begun : {left : Value} {last : ℕ} → at ≤ n → Underway left 0 4 last at
    begun l = record { within = l; pending = first refl refl refl }

    module _ (some_level : 1 ≤ level) {left : Value} {op own last here : ℕ} (p : Underway left op own last here) {r : EvaluationResult} (x : Leaf t env vars vs n here r) where
      pub quick_none : {a k : ℕ} → r ≡ Failed a k → Quick t env vars vs n at level r
      quick_none {a} {k} h = record { found = λ v next e. lost (sym h ∙ e); only = λ five np na. go p.pending five np na }
        where
          go : Pending left op own last here → level ≡ 5 → (t.kind at ≡ 40 → ⊥) → (t.kind at ≡ 1 → t.word2 at ≡ 2 → ⊥) → EvalsPrimary t env vars vs n at r
          go (first o w e) five np na =
              subst (λ (i : ℕ). EvalsPrimary t env vars vs n i r) e (x.only (λ z. np (ap t.kind (sym e) ∙ z)) (λ y z. na (ap t.kind (sym e) ∙ y) (ap t.word2 (sym e) ∙ z)))
          go (behind_operator ch s ek eo l) five np na = absurd (let m = level_few op in omega (arith, m, eo, l, five))

      module _ {b : Value} {next k tight : ℕ} (h : r ≡ EvaluatedTo b next) (ek : k ≡ t.kind next) (et : tight ≡ level_of k) where
        pub quick_tighter : {a c : ℕ} → own < tight → Quick t env vars vs n at level (Failed a c)
        quick_tighter {a} {c} u = record { found = λ v next e. lost e; only = λ five np na. absurd (go p.pending five) }
          where
            go : Pending left op own last here → level ≡ 5 → ⊥
            go (first o w e) five = let m = level_few k in omega (arith, m, et, w, u)
            go (behind_operator ch s eo ew l) five = let m = level_few op in omega (arith, m, ew, l, five)

        module _ (u : tight ≤ own) {o : EvaluationResult} (j : Joins (t.place last) op left.n b next o) where
          pub quick_fault : {a c a' c' : ℕ} → o ≡ Failed a c → Quick t env vars vs n at level (Failed a' c')
          quick_fault {a} {c} g = record { found = λ v next e. lost e; only = λ five np na. absurd (go p.pending five) }
            where
              go : Pending left op own last here → level ≡ 5 → ⊥
              go (first z w e) five = lost (sym g ∙ j.alone z)
              go (behind_operator ch s eo ew l) five = let m = level_few op in omega (arith, m, ew, l, five)

          module _ {c : Value} {m : ℕ} (g : o ≡ EvaluatedTo c m) where
            joined_chain : Pending left op own last here → Chain n at level c m
            joined_chain (first z w e) =
                let q : EvaluatedTo b next ≡ EvaluatedTo c m = sym (j.alone z) ∙ g in
                first_found n at level (subst (λ (i : ℕ). EvalsOperand t env vars vs n i r) e (x.found b next h)) (h ∙ q)
            joined_chain (behind_operator ch s eo ew l) =
                chain_more n at level ch eo ew l (quick_right n (last + 1) own (subst (λ (i : ℕ). EvalsOperand t env vars vs n i r) (sym s) (x.found b next h)) h ek et u) refl
                (j.applied (λ z. let y = level_some op ew some_level l in omega arith)) g

            same_next : Pending left op own last here → next ≡ m
            same_next (first z w e) = found_next (sym (j.alone z) ∙ g)
            same_next (behind_operator ch s eo ew l) =
                (result_of (placed (t.place last) (apply_binary op left.n b.n)) next (sym g ∙ j.applied (λ z. let y = level_some op ew some_level l in omega arith))).1

            kind_there : k ≡ t.kind m
            kind_there = ek ∙ ap t.kind (same_next p.pending)

            pub quick_end : tight < level → Quick t env vars vs n at level (EvaluatedTo c m)
            quick_end v = record { found = λ y next e. chain_end n at level (joined_chain p.pending) kind_there et v; only = λ five np na. go p.pending five np na }
              where
                go : Pending left op own last here → level ≡ 5 → (t.kind at ≡ 40 → ⊥) → (t.kind at ≡ 1 → t.word2 at ≡ 2 → ⊥) → EvalsPrimary t env vars vs n at (EvaluatedTo c m)
                go (first z w e) five np na =
                    subst (EvalsPrimary t env vars vs n at) (h ∙ sym (j.alone z) ∙ g)
                    (subst (λ (i : ℕ). EvalsPrimary t env vars vs n i r) e (x.only (λ z. np (ap t.kind (sym e) ∙ z)) (λ y z. na (ap t.kind (sym e) ∙ y) (ap t.word2 (sym e) ∙ z))))
                go (behind_operator ch s eo ew l) five np na = absurd (let q = level_few op in omega (arith, q, ew, l, five))

            pub quick_again : level ≤ tight → next < n → Underway c k tight m (m + 1)
            quick_again v l = let e = same_next p.pending in record { within = omega arith; pending = behind_operator (joined_chain p.pending) refl kind_there et v }

            pub quick_within : (here < m) × (m ≤ n)
            quick_within = let y : (here < next) × (next ≤ n) = rw h at (x.found b next h).onward in let e = same_next p.pending in (omega arith, omega arith)

-- a value joined by an operator, or alone
pub joined_none : (place op : ℕ) (a : ℤ) (b : Value) (next : ℕ) → op ≡ 0 → Joins place op a b next (EvaluatedTo b next)
joined_none place op a b next h = record { alone = λ z. refl; applied = λ z. absurd (z h) }

pub joined_some : (place op : ℕ) (a : ℤ) (b : Value) (next : ℕ) {r : EvaluationResult} → (op ≡ 0 → ⊥) → r ≡ told_of (placed place (apply_binary op a b.n)) next → Joins place op a b next r
joined_some place op a b next h e = record { alone = λ z. absurd (h z); applied = λ z. e }

-- where a short way is left, nothing is said
pub simple_left : (t : Table) (env : Env) (vars vs : List ℤ) (n at : ℕ) {a c : ℕ} → Quick t env vars vs n at 1 (Failed a c)
simple_left t env vars vs n at = record { found = λ v next e. lost e; only = λ five np na. absurd (omega arith) }

-- ---- expressions of one or two operands

module _ (t : Table) (env : Env) (vars vs : List ℤ) (n at : ℕ) (l : at ≤ n) {a : Value} {next level : ℕ} (x : Leaf t env vars vs n at (EvaluatedTo a next)) (el : level ≡ level_of (t.kind next)) where
  no_tighter : level ≤ 4
  no_tighter = let m = level_few (t.kind next) in omega arith

  pub simple_alone : level ≡ 0 → Quick t env vars vs n at 1 (EvaluatedTo a next)
  simple_alone z =
      quick_end t env vars vs n at 1 (omega arith) (begun t env vars vs n at 1 {left = a} {last = 0} l) x refl refl el no_tighter (joined_none (t.place 0) 0 a.n a next refl) refl (omega arith)

  module _ (some : 1 ≤ level) (few : level ≤ 2) (within : next < n) {op : ℕ} (eo : op ≡ t.kind next) where
    op_level : level ≡ level_of op
    op_level = el ∙ ap level_of (sym eo)

    again : Underway t env vars vs n at 1 a op level next (next + 1)
    again =
        quick_again t env vars vs n at 1 (omega arith) (begun t env vars vs n at 1 {left = a} {last = 0} l) x refl eo op_level no_tighter (joined_none (t.place 0) 0 a.n a next refl) refl some within

    pub simple_related : {b v : Value} {past tight : ℕ} → Leaf t env vars vs n (next + 1) (EvaluatedTo b past) → tight ≡ level_of (t.kind past) → tight ≡ 0 → v ≡ compare op a.n b.n
        → Quick t env vars vs n at 1 (EvaluatedTo v past)
    simple_related {b} {v} {past} y et z e =
        quick_end t env vars vs n at 1 (omega arith) again y refl refl et (omega arith)
        (joined_some (t.place next) op a.n b past (λ h. let q = level_some op {level = 1} op_level (omega arith) some in omega arith) (told_compare op (omega (arith, op_level)) a.n b.n (t.place next) past e)) refl (omega arith)
