-- The laws of operands that the leaf table has.
use Prim.Native.Nat.{ℕ, suc, ◌+◌, ◌*◌, ◌%◌, ◌<◌, ◌≤◌}
use native.Mathlib.Nat.{add-mod-mod}
use native.Mathlib.Omega.{arith}
use mathlib.Core.Path.{◌≡◌, refl, sym, ap, ◌∙◌, subst}
use mathlib.Core.Bool.{Bool, true, false}
use mathlib.Core.List.{List, [], ◌∷◌}
use lib.ListN.{length, get_or, drop, take}
use lib.Seq.{drop-cons}
use lib.IntN.{ℤ}
use Rattle.automaton.specs.Step.{result}
use Rattle.token.specs.Kind.{level_of}
use Rattle.std.specs.Prelude.{if◌then◌else◌}
use Rattle.value.specs.Worked.{value, decode_of, wrap_of}
use Rattle.value.specs.declared.Value.{Value}
use Rattle.value.proofs.Theorems.Laws.{wrap_below}
use Rattle.value.specs.Number.{mod_z}
use Rattle.automaton.specs.Shape.{product, cell_number, shift, neighbour}
use Rattle.automaton.specs.Promises.ShapeLaws.{Inside}
use Rattle.automaton.proofs.ShapeLaws.{inside_at, wrap_mod}
use Rattle.automaton.specs.Grid.{cell_of}
use Rattle.program.specs.Syntax.{Expr, number, variable, field}
use Rattle.cell_meaning.specs.Evaluation.{Env, entry, offset, offsets, eval}
use Rattle.cell_meaning.specs.Promises.Stands.{index_in, next_index, indices_in, is_sign_kind, is_unary, parsed, decode_operand, decode_primary}
use Rattle.cell_meaning.specs.Links.{Table, word_in}
use Rattle.cell_meaning.specs.Promises.Leaves.{leaf_word, OperandIs, OffsetsAre}
use Rattle.cell_operands.specs.Promises.Working.{EvaluationResult, EvaluatedTo, Failed, site_table, env_of, SiteReady, told_of, Leaf, OperandNoted}
use Rattle.cell_operands.specs.declared.Site.{Site}
use Rattle.cell_operands.proofs.TableLaws.{token}
use Rattle.cell_operands.proofs.OperatorLaws.{level_some}
use Rattle.cell_operands.proofs.NeighbourLaws.{Steps, steps_start, steps_more, steps_done, number_small, total_small, front_entry}
use Rattle.automaton.proofs.Theorems.GridLaws.{cell_room}
use Rattle.cell_operands.proofs.PrimaryLaws.{ready_inside, neighbour_is, own_is, as_value}

-- ---- the number of the cell at the offsets that are noted

-- a coordinate is wrapped by its offset from coordinate 0
pub moved_is : (own : ℕ) (d : ℤ) (size : ℕ) → own < size → (own + wrap_of 0 d size) % size ≡ wrap_of own d size
moved_is own d size l =
    let z : 0 < size = omega arith in
    let e : 0 + mod_z d size ≡ mod_z d size = omega arith in
    ap (λ (x : ℕ). (own + x) % size) (wrap_mod size 0 d z ∙ ap (λ (x : ℕ). x % size) e) ∙ add-mod-mod own (mod_z d size) size ∙ sym (wrap_mod size own d z)

next_near : (t : Table) (at : ℕ) → next_index t at ≤ at + 3
unfolding next_index
next_near t at = go (is_sign_kind (t.kind at))
  where
    go : (b : Bool) → (if b then at + 3 else at + 2) ≤ at + 3
    go true = omega arith
    go false = omega arith

module _ (t : Table) (vs : List ℤ) (ns is : List ℕ) (w : ℕ → ℕ) (at : ℕ) where
  -- the first k dimensions are done
  pub record Walk (number k : ℕ) : Type 0 where
    pub here : ℕ
    pub steps : Steps t vs ns is (at + 1) number here k
    pub rest : OffsetsAre t vs w (drop k ns) here (4 + k)

  pub walk_start : OffsetsAre t vs w ns (at + 1) 4 → Walk 0 0
  walk_start o = record { here = at + 1; steps = steps_start t vs ns is (at + 1); rest = o }

  module _ (inside : Inside ns is) where
    module _ {number k : ℕ} (so : Walk number k) (l : k < length ns) where
      rest_here : OffsetsAre t vs w (get_or ns k 0 ∷ drop (suc k) ns) so.here (4 + k)
      rest_here = rw (drop-cons ns k 0 l) at so.rest

      module _ {o : ℕ} (eo : o ≡ w (4 + k)) where
        pub offset_small : o < get_or ns k 0
        offset_small =
            let i = inside_at ns is inside k l in
            rw (eo ∙ rest_here.0) (wrap_below 0 (offset vs (index_in t so.here)) (get_or ns k 0) (omega arith))

        module _ {to : ℕ} (et : to ≡ (get_or is k 0 + o) % get_or ns k 0) where
          to_is : to ≡ wrap_of (get_or is k 0) (offset vs (index_in t so.here)) (get_or ns k 0)
          to_is =
              et ∙ ap (λ (x : ℕ). (get_or is k 0 + x) % get_or ns k 0) (eo ∙ rest_here.0)
              ∙ moved_is (get_or is k 0) (offset vs (index_in t so.here)) (get_or ns k 0) (inside_at ns is inside k l)

          pub walk_small : number * get_or ns k 0 + to < product ns
          walk_small = number_small t vs ns is inside (at + 1) number so.here k so.steps l (value (offset vs (index_in t so.here))) refl to to_is

          pub walk_more : Walk (number * get_or ns k 0 + to) (k + 1)
          walk_more = record {
            here = next_index t so.here;
            steps =
                steps_more t vs ns is inside (at + 1) number so.here k so.steps l (value (offset vs (index_in t so.here))) refl to to_is (next_index t so.here)
                (refl, next_near t so.here);
            rest =
                let e : suc k ≡ k + 1 = omega arith in
                let f : suc (4 + k) ≡ 4 + suc k = omega arith in
                subst (λ (j : ℕ). OffsetsAre t vs w (drop j ns) (next_index t so.here) (4 + j)) e
                (subst (λ (j : ℕ). OffsetsAre t vs w (drop (suc k) ns) (next_index t so.here) j) f rest_here.1);
          }

    pub walk_done : {number k : ℕ} → Walk number k → length ns ≤ k
        → number ≡ cell_number ns (shift ns is (offsets (length ns) vs (indices_in t (length ns) (at + 1))))
    walk_done {number} {k} so l = steps_done t vs ns is inside (at + 1) number so.here k so.steps l

-- ---- leaves

module _ (t : Table) (env : Env) (vars vs : List ℤ) (n at : ℕ) where
  bare_operand : is_unary (t.kind at) ≡ false → (fuel : ℕ) → decode_operand (suc fuel) t at ≡ decode_primary fuel t at
  unfolding decode_operand
  bare_operand b fuel = simp b

  -- an operand without a unary operator, of which the expression is known
  operand_leaf : (e₀ : Expr) (past : ℕ) {v : Value} → is_unary (t.kind at) ≡ false → (at < past) × (past ≤ n) → eval env vars vs e₀ ≡ result v.n → OperandIs t at e₀ past
      → Leaf t env vars vs n at (EvaluatedTo v past)
  operand_leaf e₀ past {v} b l y is = record {
    found = λ w next h. record { says = told; onward = l };
    only = λ np na. record { says = λ fuel e next q. told (suc fuel) e next (bare_operand b fuel ∙ q); onward = l };
  }
    where
      told : (fuel : ℕ) (e : Expr) (next : ℕ) → decode_operand fuel t at ≡ parsed e next → EvaluatedTo v past ≡ told_of (eval env vars vs e) next
      told fuel e next q =
          let h = is fuel e next q in
          let i : e₀ ≡ e = cc in
          let j : next ≡ past = cc in
          as_value env vars vs e past next (ap (eval env vars vs) (sym i) ∙ y) j

  -- a leaf that is found is past its position
  pub leaf_within : {r : EvaluationResult} {v : Value} {next : ℕ} → Leaf t env vars vs n at r → r ≡ EvaluatedTo v next → (at < next) × (next ≤ n)
  leaf_within {r} {v} {next} x h = rw h at (x.found v next h).onward

  pub leaf_onto : {v : Value} {next past : ℕ} → next ≡ past → Leaf t env vars vs n at (EvaluatedTo v past) → Leaf t env vars vs n at (EvaluatedTo v next)
  leaf_onto {v} e x = subst (λ (i : ℕ). Leaf t env vars vs n at (EvaluatedTo v i)) (sym e) x

  pub noted_found : {v : Value} {next past : ℕ} → next ≡ past → Leaf t env vars vs n at (EvaluatedTo v past) → OperandNoted t env vars vs n at (EvaluatedTo v next)
  noted_found e x = record { found = λ w m h. leaf_onto e x }

  pub noted_none : {a p : ℕ} → OperandNoted t env vars vs n at (Failed a p)
  noted_none = record { found = λ v next e. absurd (let z : ◌≡◌ {A = ℕ} 0 1 = cc in omega arith) }

  pub leaf_noted : {r : EvaluationResult} {v : Value} {next : ℕ} → OperandNoted t env vars vs n at r → r ≡ EvaluatedTo v next → Leaf t env vars vs n at (EvaluatedTo v next)
  leaf_noted {r} {v} {next} x h = subst (Leaf t env vars vs n at) h (x.found v next h)

-- ---- what the leaf table says of a position

module _ {leaves words sizes point : List ℕ} {grid : List ℤ} {site : Site} {depth : ℕ} (r : SiteReady leaves words sizes point grid site depth) where
  pub own_room : site.cell * site.fields + site.fields ≤ length grid
  own_room = cell_room site.cell (product sizes) site.fields (length grid) r.cell r.shaped.entries

  -- the level of the operator at a position
  module _ (at : ℕ) (l : at ≤ site.tokens) {k : ℕ} (ek : k ≡ leaf_word leaves at 3) where
    pub level_at : k ≡ level_of (word_in words site.tokens 0 at)
    level_at = ek ∙ (r.noted.at at l).level

    -- the operator
    pub operator_at : 1 ≤ k → {op : ℕ} → op ≡ leaf_word leaves at 1 → op ≡ word_in words site.tokens 0 at
    operator_at h eo = eo ∙ (r.noted.at at l).operator (λ z. omega arith)

    -- what has one is no end
    pub operator_within : 1 ≤ k → at < site.tokens
    operator_within h = token words site.tokens at {k = word_in words site.tokens 0 at} refl (level_some (word_in words site.tokens 0 at) {level = 1} level_at (omega arith) h)

  module _ (vars index : List ℤ) (at : ℕ) (l : at ≤ site.tokens) where
    abbrev Is : Value → Type 0
    Is v = Leaf (site_table words sizes site) (env_of words sizes grid site) (take site.slots vars) (take depth index) site.tokens at (EvaluatedTo v (leaf_word leaves at 2))

    noted_leaf : {v : Value} → (leaf_word leaves at 0 ≡ 0 → ⊥) → (e : Expr) → eval (env_of words sizes grid site) (take site.slots vars) (take depth index) e ≡ result v.n
        → OperandIs (site_table words sizes site) at e (leaf_word leaves at 2) → Is v
    noted_leaf some e y is =
        operand_leaf (site_table words sizes site) (env_of words sizes grid site) (take site.slots vars) (take depth index) site.tokens at e (leaf_word leaves at 2)
        ((r.noted.at at l).bare some) ((r.noted.at at l).onward some) y is

    module _ {s a : ℕ} (es : s ≡ leaf_word leaves at 0) (ea : a ≡ leaf_word leaves at 1) where
      pub slot_small : s ≡ 2 → a < site.slots
      slot_small h = rw ea ((r.noted.at at l).variable (sym es ∙ h)).0

      pub own_small : s ≡ 3 → a < site.fields
      own_small h = rw ea ((r.noted.at at l).own (sym es ∙ h)).0

      pub near_small : s ≡ 4 → a < site.fields
      near_small h = rw ea ((r.noted.at at l).near (sym es ∙ h)).0

      module _ {v : Value} where
        pub number_leaf : s ≡ 1 → v ≡ value (decode_of a) → Is v
        unfolding eval
        number_leaf h ev =
            noted_leaf (λ z. omega arith) (number (decode_of (leaf_word leaves at 1)))
            (ap (λ (i : ℕ). result (decode_of i)) (sym ea) ∙ ap (λ (y : Value). result y.n) (sym ev)) ((r.noted.at at l).number (sym es ∙ h))

        pub variable_leaf : s ≡ 2 → v ≡ value (entry vars a) → Is v
        unfolding eval
        variable_leaf h ev =
            noted_leaf (λ z. omega arith) (variable (leaf_word leaves at 1))
            (ap (λ (i : ℕ). result (entry (take site.slots vars) i)) (sym ea) ∙ ap result (front_entry vars site.slots a (slot_small h)) ∙ ap (λ (y : Value). result y.n) (sym ev))
            ((r.noted.at at l).variable (sym es ∙ h)).1

        pub own_leaf : s ≡ 3 → v ≡ value (entry (cell_of site.fields grid site.cell) a) → Is v
        unfolding eval
        own_leaf h ev =
            noted_leaf (λ z. omega arith) (field [] (leaf_word leaves at 1))
            (ap (λ (i : ℕ). result (entry (cell_of site.fields grid i) (leaf_word leaves at 1))) (own_is r (take depth index))
            ∙ ap (λ (i : ℕ). result (entry (cell_of site.fields grid site.cell) i)) (sym ea) ∙ ap (λ (y : Value). result y.n) (sym ev))
            ((r.noted.at at l).own (sym es ∙ h)).1

      -- the cell at the offsets that are noted
      module _ {c : ℕ} (ec : c ≡ cell_number sizes (shift sizes point (offsets (length sizes) (take depth index) (indices_in (site_table words sizes site) (length sizes) (at + 1))))) where
        pub near_room : c * site.fields + site.fields ≤ length grid
        near_room =
            cell_room c (product sizes) site.fields (length grid)
            (rw ec (total_small (site_table words sizes site) (take depth index) sizes point (ready_inside r) (at + 1))) r.shaped.entries

        pub near_leaf : {v : Value} → s ≡ 4 → v ≡ value (entry (cell_of site.fields grid c) a) → Is v
        unfolding eval
        near_leaf {v} h ev =
            let ds = offsets (length sizes) (take depth index) (indices_in (site_table words sizes site) (length sizes) (at + 1)) in
            noted_leaf (λ z. omega arith) (field (indices_in (site_table words sizes site) (length sizes) (at + 1)) (leaf_word leaves at 1))
            (ap (λ (i : ℕ). result (entry (cell_of site.fields grid (neighbour sizes site.cell ds)) i)) (sym ea) ∙ ap (λ (y : Value). result y.n) (sym (neighbour_is r ds c a ec ev)))
            ((r.noted.at at l).near (sym es ∙ h)).1

    pub near_offsets : leaf_word leaves at 0 ≡ 4 → OffsetsAre (site_table words sizes site) (take depth index) (leaf_word leaves at) sizes (at + 1) 4
    near_offsets h = ((r.noted.at at l).near h).2 (take depth index)
