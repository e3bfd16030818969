-- Relative indices and fields: what is read of them stands in every later table.
use Prim.Native.Nat.{ℕ, suc, ◌+◌, ◌-◌, ◌*◌, ◌/◌, ◌%◌, ◌≤◌, ◌<◌}
use native.Mathlib.Nat.{le_refl, sub-zero}
use native.Mathlib.Omega.{arith}
use mathlib.Core.Path.{◌≡◌, refl, sym, ap, ap₂, ◌∙◌, subst, subst₂}
use mathlib.Core.Logic.{◌⊎◌, inl, inr}
use mathlib.Core.Bool.{Bool, true, false, not, ◌&&◌, ◌||◌}
use mathlib.Core.List.{List, [], ◌∷◌, ◌++◌, append_assoc}
use lib.Dec.{eqb}
use lib.IntN.{ℤ}
use lib.ListN.{length, length-append}
use borrow.Author.Tests.{eqb-true, eqb-false, not-true}
use Rattle.value.proofs.Theorems.Truth.{or_either}
use Rattle.std.specs.Prelude.{if◌then◌else◌}
use Rattle.value.specs.Worked.{decode_of, encode_of}
use Rattle.value.proofs.Theorems.Laws.{and_both}
use Rattle.token.specs.Kind.{kind, operation, delimiter}
use Rattle.names.specs.declared.Entry.{Entry}
use Rattle.names.specs.Names.{name_kind, entry_at, letters}
use Rattle.token.specs.Bytes.{same}
use Rattle.program.specs.Syntax.{Range, Index, fixed, moving, Expr, field}
use Rattle.grammar.specs.Reader.{Input, State, Reader, ◌>>◌, unit, again, done, turns, token_of, is_kind, is_name, forbid}
use Rattle.grammar.specs.Constants.{is_sign as is-sign-token}
use Rattle.grammar.specs.Expressions.{Cell, plain, field_name, dot_field, field_number, read_field, put_field, named_index, fixed_index, read_index, index_turn, read_indices, read_neighbour, read_own}
use Rattle.grammar.proofs.Theorems.Ends.{Gives, bind}
use Rattle.cell_meaning.specs.Promises.Stands.{index_in, next_index, indices_in, is_sign_kind}
use Rattle.cell_meaning.specs.Links.{Table, table_of, word_in, linked}
use Rattle.read_links.proofs.Theorems.Steps.{advanced, written, gave, refused, regroup, given_as, choose, at_position, at_token, at_entry, over, wrote, wrote_both, by_found, expected, forbidden, opened, Turned, repeated}
use Rattle.read_links.proofs.Theorems.Runs.{tokens, head_at, span_at, Text, Entered, Sound, Run, stay, join, go_on, write_first, word_put, both_2, both_3}
use Rattle.read_links.proofs.Theorems.Naming.{of_kind, head_is, token_start, token_len, Found, found_name}
use Rattle.read_links.proofs.Theorems.Constants.{is_name_inside, signable_decoded, Piece, write_piece, used, used_it, use_piece, signed_gives}
use Rattle.read_links.proofs.Theorems.Tables.{View, Claim, first_part, second_part, inner_part, unwritten, view_word, view_kind, view_place, link_to}
use Rattle.read_links.proofs.Theorems.Adding.{plain_kind, plain_by, plain_of, Adds, adds_none, adds_both, adds_plain}
use Rattle.read_links.proofs.Theorems.Decoding.{Primary, primary_index, primary_own}

-- behind a plain number
pub plain_it : {A : Type 0} {input : Input} {s : State} {Q : A → State → Type 0} {h : Reader A} → Gives input h s Q → Gives input (plain >> h) s Q
unfolding plain
plain_it x = regroup _ _ _ (forbidden delimiter.bracket 6 (λ _. forbidden delimiter.dot 12 (λ _. x)))

module _ {input : Input} {text : List ℕ} (T : Text input text) where
  -- the words of a token that is read
  pub inside_words : {t : State} → Sound input text t → (i w : ℕ) → i < t.at → w < 4 → 4 * i + w < length t.words
  inside_words x i w l o = omega (arith, x.size, x.within, T.few)

  -- ---- names in use

  -- what a name in use leaves in a later table
  module _ {dims : ℕ} {wf : List ℕ} {s t : State} (slot : ℕ) (x : Sound input text s) (r : Run input text (used s slot) t) (v : View input text dims wf s t) where
    pub used_2 : word_in wf (tokens input) 2 s.at ≡ (entry_at s.names slot).kind
    used_2 =
        view_word v r.sound.within s.at 2 (le_refl _) (omega (arith, r.on)) (omega arith) ∙ r.below _ (omega arith)
        ∙ both_2 s.words s.at (entry_at s.names slot).kind (entry_at s.names slot).word (omega (arith, x.size, r.on, r.sound.within, T.few))

    pub used_3 : word_in wf (tokens input) 3 s.at ≡ (entry_at s.names slot).word
    used_3 =
        view_word v r.sound.within s.at 3 (le_refl _) (omega (arith, r.on)) (omega arith) ∙ r.below _ (omega arith)
        ∙ both_3 s.words s.at (entry_at s.names slot).kind (entry_at s.names slot).word (omega (arith, x.size, r.on, r.sound.within, T.few))

  -- `cell` and `time` are found in no name list
  pub a_name_found : {s : State} → Sound input text s → (i : ℕ) → is_name (token_of input s i) ≡ true → {fields : Bool} {slot : ℕ} → Found input.source s.names s.count fields (token_of input s i).start (token_of input s i).len slot → eqb (token_of input s i).kind kind.name ≡ true
  unfolding is_name
  a_name_found {s} x i q {fields} {slot} f = by (or_either _ _ q)
    where
      l : i < tokens input
      l = is_name_inside x i q

      e : Entered input text s.words s.at s.noted.number (entry_at s.names slot)
      e = x.entries slot f.listed

      alike : same (letters input.source (span_at text i % 65536) (span_at text i / 65536)) (letters input.source (span_at text e.token % 65536) (span_at text e.token / 65536)) ≡ true
      alike = rw (← token_start x i l, ← token_len x i l, ← e.start_is, ← e.len_is) f.spelled

      no : (head_at text i ≡ kind.cell) ⊎ (head_at text i ≡ kind.time) → ⊥
      no h = T.apart e.token i e.inside l e.a_name h alike

      by₂ : (eqb (token_of input s i).kind kind.name ≡ true) ⊎ (eqb (token_of input s i).kind kind.cell ≡ true) → eqb (token_of input s i).kind kind.name ≡ true
      by₂ (inl h) = h
      by₂ (inr h) = absurd (no (inl (head_is x i kind.cell (omega arith) h)))

      by : ((eqb (token_of input s i).kind kind.name || eqb (token_of input s i).kind kind.cell) ≡ true) ⊎ (eqb (token_of input s i).kind kind.time ≡ true) → eqb (token_of input s i).kind kind.name ≡ true
      by (inl h) = by₂ (or_either _ _ h)
      by (inr h) = absurd (no (inr (head_is x i kind.time (omega arith) h)))

  -- ---- relative indices

  module _ (dims : ℕ) where
    -- an element is read: it stands at its first token, and the next behind the comma
    pub record Element (s : State) (i : Index) (t : State) : Type 0 where
      pub piece : Piece input text s t
      pub element : Claim input text dims s t (λ tb. index_in tb s.at ≡ i)
      pub next : Claim input text dims s t (λ tb. next_index tb s.at ≡ t.at + 1)

    named_gives : {s : State} → Sound input text s → is_name (token_of input s s.at) ≡ true → (slot : ℕ) → Found input.source s.names s.count false (token_of input s s.at).start (token_of input s s.at).len slot → Gives input (named_index (token_of input s s.at) slot) s (Element s)
    unfolding named_index index_in next_index is_sign_kind
    named_gives {s} x q slot f =
        at_entry slot _
        (choose _
        (λ c.
        used_it slot _
        (gave (moving (token_of input s s.at).start e.word)
        (record {
          piece = p;
          element = λ wf v.
              let w : word_in wf (tokens input) 2 s.at ≡ name_kind.index = used_2 slot x (stay p.run.sound) v ∙ eqb-true e.kind name_kind.index c in
              rw (a_kind v, w) (ap₂ moving (view_place v x s.at l) (used_3 slot x (stay p.run.sound) v));
          next = λ wf v. rw (a_kind v) (omega arith);
        })))
        (λ _.
        choose _
        (λ c.
        used_it slot _
        (gave (fixed (token_of input s s.at).start (decode_of e.word))
        (record {
          piece = p;
          element = λ wf v.
              let k : e.kind ≡ name_kind.constant = eqb-true e.kind name_kind.constant c in
              let w : word_in wf (tokens input) 2 s.at ≡ name_kind.constant = used_2 slot x (stay p.run.sound) v ∙ k in
              rw (a_kind v, w) (ap₂ (λ (a b : ℕ). fixed a (decode_of b)) (view_place v x s.at l) (used_3 slot x (stay p.run.sound) v));
          next = λ wf v. rw (a_kind v) (omega arith);
        })))
        (λ _. refused 8)))
      where
        e : Entry
        e = entry_at s.names slot

        l : s.at < tokens input
        l = is_name_inside x s.at q

        p : Piece input text s (used s slot)
        p = use_piece x l slot

        a_kind : {wf : List ℕ} {t : State} → View input text dims wf s t → word_in wf (tokens input) 0 s.at ≡ kind.name
        a_kind v = view_kind v x s.at ∙ eqb-true _ _ (a_name_found x s.at q f)

    fixed_gives : {s : State} → Sound input text s → is_name (token_of input s s.at) ≡ false → Gives input (fixed_index (token_of input s s.at)) s (Element s)
    unfolding fixed_index index_in next_index is_sign_kind is-sign-token is_name
    fixed_gives {s} x q =
        at_position _
        (bind (signed_gives T x)
        (λ z t h.
        wrote _ _ _
        (gave (fixed (token_of input s s.at).start z)
        (record {
          piece = write_piece x h.0 s.at 3 (encode_of z) (le_refl _) h.0.far (omega arith) (omega arith);
          element = λ wf v.
              let l : s.at < tokens input = omega (arith, h.0.far, h.0.run.sound.within) in
              let k : eqb (word_in wf (tokens input) 0 s.at) kind.name ≡ false = ap (λ (y : ℕ). eqb y kind.name) (view_kind v x s.at) ∙ neither (eqb (token_of input s s.at).kind kind.name) _ _ q in
              let w : word_in wf (tokens input) 3 s.at ≡ encode_of z = view_word v h.0.run.sound.within s.at 3 (le_refl _) h.0.far (omega arith) ∙ word_put t.words s.at 3 (encode_of z) (inside_words h.0.run.sound s.at 3 h.0.far (omega arith)) in
              rw k (ap₂ (λ (a : ℕ) (b : ℤ). fixed a b) (view_place v x s.at l) (ap decode_of w ∙ signable_decoded z h.1));
          next = λ wf v. rw (view_kind v x s.at) (sizes (eqb (token_of input s s.at).kind operation.plus || eqb (token_of input s s.at).kind operation.minus) h.2);
        }))))
      where
        neither : (a b c : Bool) → (a || b || c) ≡ false → a ≡ false
        neither true b c e = e
        neither false b c e = refl

        sizes : {n : ℕ} (b : Bool) → n ≡ (if b then s.at + 2 else s.at + 1) → (if b then s.at + 3 else s.at + 2) ≡ n + 1
        sizes true e = omega arith
        sizes false e = omega arith

    index_gives : {s : State} → Sound input text s → Gives input read_index s (Element s)
    unfolding read_index
    index_gives {s} x = at_token _ (choose _ (λ q. by_found _ false (λ slot f. named_gives x q slot (found_name f)) (refused 8)) (fixed_gives x))

    -- ---- the elements of a relative index

    -- from an element on, where those in `got` are read
    pub record Elements (got : List Index) (s : State) (is : List Index) (t : State) : Type 0 where
      pub run : Run input text s t
      pub are : Claim input text dims s t (λ tb. is ≡ got ++ indices_in tb (dims - length got) s.at)

    record Going (got : List Index) (s : State) : Type 0 where
      pub sound : Sound input text s
      pub short : length got < dims

    -- one element and those behind it
    more_indices : (tb : Table) (got : List Index) (i : Index) (at next : ℕ) → length got < dims → index_in tb at ≡ i → next_index tb at ≡ next → (got ++ i ∷ []) ++ indices_in tb (dims - length (got ++ i ∷ [])) next ≡ got ++ indices_in tb (dims - length got) at
    unfolding indices_in
    more_indices tb got i at next l p q =
        let n : dims - length got ≡ suc (dims - length (got ++ i ∷ [])) = omega (arith, length-append got (i ∷ [])) in
        rw (append_assoc, n, p, q)

    elements_gives : (cell : Cell) → cell.dims ≡ dims → {s : State} → Sound input text s → 0 < dims → Gives input (read_indices cell) s (Elements [] s)
    unfolding read_indices index_turn indices_in
    elements_gives cell d {s} x l = repeated (index_turn cell) turn turns [] s (record { sound = x; short = l })
      where
        turn : (got : List Index) (s : State) → Going got s → Gives input (index_turn cell got) s (Turned Going Elements got s)
        turn got s g =
            bind (index_gives g.sound)
            (λ i t e.
            let now : List Index = got ++ i ∷ [] in
            let n : length now ≡ length got + 1 = length-append got (i ∷ []) in
            let full : Bool = eqb (length now) cell.dims in
            at_token _
            (choose (is_kind (token_of input t t.at) delimiter.comma && not full)
            (λ q.
            let q₀ = and_both (is_kind (token_of input t t.at) delimiter.comma) (not full) q in
            let r : Run input text t (advanced t) = go_on e.piece.run.sound (of_kind e.piece.run.sound t.at delimiter.comma (omega arith) q₀.0) in
            let ne = eqb-false (length now) cell.dims (not-true full q₀.1) in
            let short : length now < dims = omega (arith, g.short, ne) in
            over
            (gave (again now) (
              record { sound = r.sound; short = short },
              λ is u h.
                  record {
                    run = join e.piece.run (join r h.run);
                    are = λ wf v.
                        let v₁ = first_part v (join r h.run) in
                        let v₂ = second_part g.sound v (join e.piece.run r) h.run in
                        h.are wf v₂ ∙ more_indices _ got i s.at (t.at + 1) g.short (e.element wf v₁) (e.next wf v₁);
                  },
            )))
            (λ _.
            choose (is_kind (token_of input t t.at) delimiter.unbracket && full)
            (λ q.
            let q₀ = and_both (is_kind (token_of input t t.at) delimiter.unbracket) full q in
            let r : Run input text t (advanced t) = go_on e.piece.run.sound (of_kind e.piece.run.sound t.at delimiter.unbracket (omega arith) q₀.0) in
            let eq : length now ≡ cell.dims = eqb-true (length now) cell.dims q₀.1 in
            over (gave (done now) (record { run = join e.piece.run r; are = λ wf v. let one : dims - length got ≡ 1 = omega (arith, eq, n) in rw (one, e.element wf (first_part v r)) })))
            (λ _. choose (is_kind (token_of input t t.at) delimiter.comma || is_kind (token_of input t t.at) delimiter.unbracket) (λ _. refused 12) (λ _. refused 7)))))

    -- ---- fields

    name_of_field : {s : State} → Sound input text s → Gives input field_name s (λ _ t. (t ≡ advanced s) × (s.at < tokens input) × (is_name (token_of input s s.at) ≡ true))
    unfolding field_name
    name_of_field {s} x = at_token _ (choose _ (λ q. by_found _ true (λ slot _. over (gave slot (refl, is_name_inside x s.at q, q))) (refused 12)) (λ _. refused 7))

    -- no index is written from a state up to another
    abbrev pub AddsNone : State → State → Type 0
    AddsNone s t = Claim input text dims s t (λ tb. (loops : List Range) → Adds tb loops s.at t.at [])

    -- a name, `cell` or `time` is plain
    pub plain_name : (k : ℕ) → (eqb k kind.name || eqb k kind.cell || eqb k kind.time) ≡ true → plain_kind k ≡ true
    plain_name k q = plain_by (λ j. eqb j kind.name || eqb j kind.cell || eqb j kind.time) k q refl refl refl

    -- a `.` and a name
    adds_dot : {s : State} → Sound input text s → eqb (token_of input s s.at).kind delimiter.dot ≡ true → is_name (token_of input s (s.at + 1)) ≡ true → AddsNone s (advanced (advanced s))
    unfolding plain_kind is_name
    adds_dot {s} x q n wf v loops =
        adds_both _ loops (adds_plain _ loops s.at (plain_of delimiter.dot (view_kind v x s.at ∙ eqb-true _ _ q) refl))
        (adds_plain _ loops (s.at + 1) (rw (view_kind v x (s.at + 1)) (plain_name (token_of input s (s.at + 1)).kind n)))

    pub dot_gives : {s : State} → Sound input text s
        → Gives input dot_field s (λ _ t. (t ≡ advanced (advanced s)) × Run input text s t × (eqb (token_of input s s.at).kind delimiter.dot ≡ true) × AddsNone s t)
    unfolding dot_field
    dot_gives {s} x =
        expected delimiter.dot 6
        (λ q.
        let r = go_on x (of_kind x s.at delimiter.dot (omega arith) q) in
        given_as (name_of_field r.sound)
        (λ slot t h. (
          h.0,
          subst (λ (u : State). Run input text s u) (sym h.0) (join r (go_on r.sound h.1)),
          q,
          subst (λ (u : State). AddsNone s u) (sym h.0) (adds_dot x q h.2),
        )))

    field_gives : (cell : Cell) (unnamed : Reader Unit) → ((s : State) → Gives input unnamed s (λ _ t. t ≡ s)) → {s : State} → Sound input text s
        → Gives input (read_field cell unnamed) s (λ _ t. Run input text s t × AddsNone s t)
    unfolding read_field field_number
    field_gives cell unnamed stays {s} x =
        choose cell.named
        (λ _. regroup _ _ _ (bind (dot_gives x) (λ slot t h. regroup _ _ _ (forbidden delimiter.bracket 6 (λ _. bind (gave {Q = λ a u. (u ≡ t)} slot refl) (λ a u e. at_entry a _ (gave _ (subst (λ (z : State). Run input text s z × AddsNone s z) (sym e) (h.1, h.3)))))))))
        (λ _. bind (stays s) (λ _ t e. gave 0 (subst (λ (z : State). Run input text s z × AddsNone s z) (sym e) (stay x, λ wf v loops. adds_none _ loops s.at))))

    -- a relative index or `cell`, with the field's number and the position past it at its first token
    put_field_it : {A : Type 0} {s : State} {Q : A → State → Type 0} (i f : ℕ) {h : Reader A} → Gives input h (written (written s i 2 f) i 3 s.at) Q → Gives input (put_field i f >> h) s Q
    unfolding put_field
    put_field_it i f x = regroup _ _ _ (at_position _ (wrote_both _ _ _ x))

    forbid_gives : (k n : ℕ) (s : State) → Gives input (forbid k n) s (λ _ t. t ≡ s)
    unfolding forbid
    forbid_gives k n s = at_token _ (choose (is_kind (token_of input s s.at) k) (λ _. refused n) (λ _. gave unit refl))

    plain_gives : (s : State) → Gives input plain s (λ _ t. t ≡ s)
    unfolding plain
    plain_gives s = forbidden delimiter.bracket 6 (λ _. forbid_gives delimiter.dot 12 s)

    -- what is written at the first token, in a later table
    module _ {s t : State} (x : Sound input text s) (r : Run input text s t) (far : s.at < t.at) (a b : ℕ) {wf : List ℕ} (v : View input text dims wf s (written (written t s.at 2 a) s.at 3 b)) where
      pub first_2 : word_in wf (tokens input) 2 s.at ≡ a
      first_2 = view_word v r.sound.within s.at 2 (le_refl _) far (omega arith) ∙ both_2 t.words s.at a b (inside_words r.sound s.at 3 far (omega arith))

      pub first_3 : word_in wf (tokens input) 3 s.at ≡ b
      first_3 = view_word v r.sound.within s.at 3 (le_refl _) far (omega arith) ∙ both_3 t.words s.at a b (inside_words r.sound s.at 3 far (omega arith))

      pub first_past : s.at < b → b ≤ tokens input → linked (tokens input) s.at (word_in wf (tokens input) 3 s.at) ≡ b
      first_past l m = ap (linked (tokens input) s.at) first_3 ∙ link_to (tokens input) s.at b l m

      pub first_inner : s.at < a → a ≤ tokens input → linked (tokens input) s.at (word_in wf (tokens input) 2 s.at) ≡ a
      first_inner l m = ap (linked (tokens input) s.at) first_2 ∙ link_to (tokens input) s.at a l m

      -- what lies behind the first token
      pub first_behind : View input text dims wf (advanced s) t
      first_behind = unwritten s.at 2 a (unwritten s.at 3 b (inner_part v) (omega arith) (omega arith)) (omega arith) (omega arith)

    pub write_both_first : {s t : State} → Sound input text s → Run input text s t → (a b : ℕ) → s.at < t.at → Run input text s (written (written t s.at 2 a) s.at 3 b)
    write_both_first x r a b l = write_first x (write_first x r 2 a l (omega arith) (omega arith)) 3 b l (omega arith) (omega arith)

    -- a primary is read
    abbrev pub Reads : (Table → ℕ → Expr → ℕ → Type 0) → State → Expr → State → Type 0
    Reads D s e t = Run input text s t × Claim input text dims s t (λ tb. D tb s.at e t.at)

    pub neighbour_gives : (cell : Cell) → cell.dims ≡ dims → 0 < dims → (free : Bool) {s : State} → Sound input text s → eqb (token_of input s s.at).kind delimiter.bracket ≡ true → Gives input (read_neighbour cell free) s (Reads Primary s)
    unfolding read_neighbour
    neighbour_gives cell d l free {s} x q =
        let r₁ = go_on x (of_kind x s.at delimiter.bracket (omega arith) q) in
        at_position _
        (opened free
        (λ _.
        bind (elements_gives cell d r₁.sound l)
        (λ is t h.
        bind (field_gives cell (forbid delimiter.dot 12) (forbid_gives delimiter.dot 12) h.run.sound)
        (λ f u g.
        let r = g.0 in
        let far : s.at < u.at = omega (arith, h.run.on, r.on) in
        let ru : Run input text s u = join r₁ (join h.run r) in
        put_field_it _ _
        (gave (field is f) (
          write_both_first x ru f u.at far,
          λ wf v.
              let v₁ = first_part (first_behind x ru far f u.at v) r in
              let w : 0 < word_in wf (tokens input) 3 s.at = omega (arith, first_3 x ru far f u.at v) in
              let p : s.at < linked (tokens input) s.at (word_in wf (tokens input) 3 s.at) = omega (arith, first_past x ru far f u.at v far r.sound.within) in
              subst (λ (n : ℕ). Primary (table_of wf (tokens input) dims) s.at (field is f) n) (first_past x ru far f u.at v far r.sound.within)
              (subst₂ (λ (js : List Index) (g : ℕ). Primary (table_of wf (tokens input) dims) s.at (field js g) (linked (tokens input) s.at (word_in wf (tokens input) 3 s.at))) (sym (h.are wf v₁ ∙ ap (λ (n : ℕ). indices_in (table_of wf (tokens input) dims) n (s.at + 1)) (sub-zero dims))) (first_2 x ru far f u.at v)
              (primary_index _ s.at (view_kind v x s.at ∙ eqb-true _ _ q) w p)),
        ))))))

    pub own_gives : (cell : Cell) {s : State} → Sound input text s → eqb (token_of input s s.at).kind kind.cell ≡ true → Gives input (read_own cell) s (Reads Primary s)
    unfolding read_own
    own_gives cell {s} x q =
        let r₁ = go_on x (of_kind x s.at kind.cell (omega arith) q) in
        at_position _
        (over
        (bind (field_gives cell plain plain_gives r₁.sound)
        (λ f u g.
        let r = g.0 in
        let far : s.at < u.at = omega (arith, r.on) in
        let ru : Run input text s u = join r₁ r in
        put_field_it _ _
        (gave (field [] f) (
          write_both_first x ru f u.at far,
          λ wf v.
              let past = first_past x ru far f u.at v far r.sound.within in
              subst (λ (n : ℕ). Primary (table_of wf (tokens input) dims) s.at (field [] f) n) (first_past x ru far f u.at v far r.sound.within)
              (subst (λ (g : ℕ). Primary (table_of wf (tokens input) dims) s.at (field [] g) (linked (tokens input) s.at (word_in wf (tokens input) 3 s.at))) (first_2 x ru far f u.at v)
              (primary_own _ s.at (view_kind v x s.at ∙ eqb-true _ _ q)
              (λ loops. subst (λ (n : ℕ). Adds (table_of wf (tokens input) dims) loops (s.at + 1) n []) (sym past) (g.1 wf (first_behind x ru far f u.at v) loops)))),
        )))))
