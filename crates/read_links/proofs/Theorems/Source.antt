-- The cell declaration, and the whole source.
use Prim.Native.Nat.{ℕ, zero, suc, ◌+◌, ◌-◌, ◌*◌, ◌≤◌, ◌<◌}
use native.Mathlib.Omega.{arith}
use mathlib.Core.Path.{◌≡◌, refl, sym, ap, ap₂, ◌∙◌, subst}
use mathlib.Core.Bool.{Bool, true, false, ◌&&◌}
use mathlib.Core.List.{List, [], ◌++◌}
use lib.Dec.{eqb, leb, ltb}
use lib.IntN.{ℤ, pos, negsuc}
use lib.ListN.{length, get_or, replicate, length-append, length-replicate, length-set, get_or-replicate, get_or-append}
use lib.Seq.{get_or-append-add}
use borrow.Author.Tests.{eqb-true, eqb-false, leb-true, leb-false, ltb-true, ltb-false}
use Rattle.std.specs.Prelude.{if◌then◌else◌}
use Rattle.value.specs.Number.{within}
use Rattle.value.specs.Worked.{decode_of, encode_of}
use Rattle.value.proofs.Theorems.Laws.{never, and_both}
use Rattle.token.specs.Kind.{kind, keyword, delimiter}
use Rattle.token.specs.Scanning.{kind_in}
use Rattle.names.specs.declared.Entry.{Entry}
use Rattle.names.specs.Names.{name_kind, entry_at}
use Rattle.program.specs.Syntax.{Range, range, no_range}
use Rattle.program.specs.Table.{word_at, with_word, with_range}
use Rattle.program.specs.Promises.Ranges.{range_at}
use Rattle.grammar.specs.Reader.{Input, State, again, done, turns, token_of, is_kind, repeat, return}
use Rattle.grammar.specs.Source.{field_turn, with_ranges, put_ranges, read_group, group_turn, read_dims, is_unnamed, Declared, declared, read_fields, read_cell}
use Rattle.grammar.proofs.Theorems.Ends.{Gives, bind}
use Rattle.read_links.proofs.Theorems.Steps.{advanced, written, named, gave, refused_last, made, choose, at_position, at_token, at_kind_after, over, named_it, expected, forbidden, Turned, repeated}
use Rattle.read_links.proofs.Theorems.Runs.{word_other, both_2, both_3, tokens, head_at, Text, Signable, Sound, Run, stay, join, go_on, write, entry_new, entry_kept}
use Rattle.read_links.proofs.Theorems.Naming.{of_kind, name_it}
use Rattle.read_links.proofs.Theorems.Constants.{Piece, one_token, signable_decoded, constant_gives, range_gives, fresh_it}

-- the number of dimensions
some_dimensions : (z : ℤ) → within (pos 1) (pos 3) z ≡ true → (0 < encode_of z) × (encode_of z ≤ 3)
some_dimensions (pos n) e =
    let h = and_both (leb 1 n) (leb n 3) e in
    let low = leb-true 1 n h.0 in
    let high = leb-true n 3 h.1 in
    (omega arith, omega arith)
some_dimensions (negsuc n) e = never e

-- a ninth field is refused
not_eight : (n : ℕ) → ◌≡◌ {A = ℕ} (if leb 8 n then 43 else 0) 0 → n < 8
not_eight n e = by (leb 8 n) refl e
  where
    by : (b : Bool) → leb 8 n ≡ b → ◌≡◌ {A = ℕ} (if b then 43 else 0) 0 → n < 8
    by true q e = absurd (omega arith)
    by false q e = leb-false 8 n q

-- ---- ranges in the table

range_other : (words : List ℕ) (i : ℕ) (r : Range) (j : ℕ) → (j ≡ i → ⊥) → range_at (with_range words i r) j ≡ range_at words j
range_other words i r j d = ap₂ (λ (a b : ℕ). range (decode_of a) (decode_of b)) (other 2 (omega arith)) (other 3 (omega arith))
  where
    other : (w : ℕ) → w < 4 → word_at (with_range words i r) j w ≡ word_at words j w
    other w l = word_other (with_word words i 2 (encode_of r.low)) i 3 (encode_of r.high) (4 * j + w) (λ e. d (omega arith)) ∙ word_other words i 2 (encode_of r.low) (4 * j + w) (λ e. d (omega arith))

ranges_length : (words : List ℕ) (i n : ℕ) (r : Range) → length (with_ranges words i n r) ≡ length words
unfolding with_ranges
ranges_length words i zero r = refl
ranges_length words i (suc n) r = simp length-set (ranges_length words i n r)

ranges_other : (words : List ℕ) (i n : ℕ) (r : Range) (j : ℕ) → j < i → range_at (with_ranges words i n r) j ≡ range_at words j
unfolding with_ranges
ranges_other words i zero r j l = refl
ranges_other words i (suc n) r j l = range_other (with_ranges words i n r) (i + n) r j (λ e. omega arith) ∙ ranges_other words i n r j l

-- the range of a field that is noted, and of one that is not
ranged_at : (words : List ℕ) (i n : ℕ) (r : Range) → decode_of (encode_of r.low) ≡ r.low → decode_of (encode_of r.high) ≡ r.high → 4 * (i + n) ≤ length words → (j : ℕ) → j < n → range_at (with_ranges words i n r) (i + j) ≡ r
unfolding with_ranges
ranged_at words i zero r low high l j m = absurd (omega arith)
ranged_at words i (suc n) r low high l j m = by (eqb j n) refl (ranged_at words i n r low high (omega arith) j)
  where
    before : List ℕ
    before = with_ranges words i n r

    size : length before ≡ length words
    size = ranges_length words i n r

    by : (b : Bool) → eqb j n ≡ b → (j < n → range_at before (i + j) ≡ r) → range_at (with_range before (i + n) r) (i + j) ≡ r
    by true q more =
        let e = eqb-true j n q in
        subst (λ (k : ℕ). range_at (with_range before (i + n) r) (i + k) ≡ r) (sym e)
        (ap₂ range (ap decode_of (both_2 before (i + n) (encode_of r.low) (encode_of r.high) (omega (arith, size))) ∙ low) (ap decode_of (both_3 before (i + n) (encode_of r.low) (encode_of r.high) (omega (arith, size))) ∙ high))
    by false q more =
        let d = eqb-false j n q in
        range_other before (i + n) r (i + j) (λ e. d (omega arith)) ∙ more (omega arith)

module _ {input : Input} {text : List ℕ} (T : Text input text) where
  -- reading from the `of` on, which stands at s₀, with no array constant declared
  record Bare (s₀ s : State) : Type 0 where
    pub run : Run input text s₀ s
    pub none : (slot : ℕ) → s₀.count ≤ slot → slot < s.count → (entry_at s.names slot).kind ≡ name_kind.array → ⊥

  module _ {s₀ s : State} (b : Bare s₀ s) where
    bare_piece : {t : State} → Piece input text s t → Bare s₀ t
    bare_piece {t} p = record { run = join b.run p.run; none = λ slot l m k. b.none slot l (omega (arith, p.same)) (ap (λ (e : Entry). e.kind) (sym (p.run.old slot (omega (arith, p.same)))) ∙ k) }

    bare_named : (i k v : ℕ) → i < tokens input → head_at text i ≡ kind.name → s.count < 256 → 2 < k → k < 7 → (k ≡ name_kind.variable → ⊥) → (k ≡ name_kind.index → ⊥) → Bare s₀ (named input s i k v)
    bare_named i k v l name few k₂ k₇ k₄ k₅ =
        record {
          run = name_it b.run i k v l name few (omega arith) k₇ (λ e. absurd (omega arith)) (λ e. absurd (omega arith)) (λ e. absurd (k₄ e)) (λ e. absurd (k₅ e));
          none = λ slot m o q. by slot m o q (eqb slot s.count) refl;
        }
      where
        new : Entry
        new = record { start = (token_of input s i).start; len = (token_of input s i).len; kind = k; word = v }

        by : (slot : ℕ) → s₀.count ≤ slot → slot < s.count + 1 → (entry_at (named input s i k v).names slot).kind ≡ name_kind.array → (c : Bool) → eqb slot s.count ≡ c → ⊥
        by slot m o q true c =
            let e = ap (λ (j : ℕ). (entry_at (named input s i k v).names j).kind) (eqb-true slot s.count c) ∙ ap (λ (y : Entry). y.kind) (entry_new s.names s.count new (omega (arith, b.run.sound.room))) in
            let h : k ≡ name_kind.array = sym e ∙ q in
            omega arith
        by slot m o q false c =
            let d = eqb-false slot s.count c in
            b.none slot m (omega arith) (ap (λ (y : Entry). y.kind) (sym (entry_kept s.names s.count new slot d)) ∙ q)

  -- the ranges of fields are noted
  abbrev ranged : State → ℕ → ℕ → Range → State
  ranged s i n r = record { at = s.at; noted = s.noted; count = s.count; names = s.names; words = with_ranges s.words i n r }

  bare_ranges : {s₀ s : State} → Sound input text s₀ → Bare s₀ s → (i n : ℕ) (r : Range) → s₀.at ≤ i → i + n ≤ s.at → Bare s₀ (ranged s i n r)
  unfolding with_ranges
  bare_ranges x b i zero r l m = record { run = b.run; none = b.none }
  bare_ranges {s₀} {s} x b i (suc n) r l m =
      let h : Bare s₀ (ranged s i n r) = bare_ranges x b i n r l (omega arith) in
      let w : Run input text s₀ (written (ranged s i n r) (i + n) 2 (encode_of r.low)) = write x h.run (i + n) 2 (encode_of r.low) (omega arith) (omega arith) (omega arith) (omega arith) (λ slot a o k. absurd (h.none slot a o k)) in
      record {
        run = write x w (i + n) 3 (encode_of r.high) (omega arith) (omega arith) (omega arith) (omega arith) (λ slot a o k. absurd (h.none slot a o k));
        none = h.none;
      }

  -- ---- fields

  -- the fields in `got` are read, behind the `of` at s₀; their ranges stand from there on
  record Fields (s₀ : State) (got : List Range) (s : State) : Type 0 where
    pub bare : Bare s₀ s
    pub long : s₀.at + length got < s.at
    pub most : length got ≤ 8
    pub ranges : (k : ℕ) → k < length got → range_at s.words (s₀.at + k) ≡ get_or got k no_range
    pub ends : (k : ℕ) → k < length got → Signable (get_or got k no_range).low × Signable (get_or got k no_range).high

  -- n field names are read
  record Names (s₀ : State) (n : ℕ) (s : State) : Type 0 where
    pub bare : Bare s₀ s
    pub long : s₀.at + n < s.at
    pub most : n ≤ 8

  -- the ranges stay while nothing before s is written
  kept : {s₀ : State} {got : List Range} {s t : State} → Fields s₀ got s → Run input text s t → (k : ℕ) → k < length got → range_at t.words (s₀.at + k) ≡ get_or got k no_range
  kept {s₀} f r k l = ap₂ (λ (a b : ℕ). range (decode_of a) (decode_of b)) (r.below _ (omega (arith, f.long))) (r.below _ (omega (arith, f.long))) ∙ f.ranges k l

  names_gives : {s₀ : State} (k : ℕ) → 2 < k → k < 7 → (k ≡ name_kind.variable → ⊥) → (k ≡ name_kind.index → ⊥) → (n : ℕ) (s : State) → Names s₀ n s → Gives input (repeat turns (field_turn k) n) s (λ m t. Names s₀ m t × Run input text s t × (n ≤ m))
  unfolding field_turn
  names_gives {s₀} k k₂ k₇ k₄ k₅ n s h = repeated (field_turn k) turn turns n s h
    where
      turn : (n : ℕ) (s : State) → Names s₀ n s → Gives input (field_turn k n) s (Turned (Names s₀) (λ n s m t. Names s₀ m t × Run input text s t × (n ≤ m)) n s)
      turn n s h =
          fresh_it T true (if leb 8 n then 43 else 0) _ h.bare.run.sound
          (λ not_full l name few.
          let more : n < 8 = not_eight n not_full in
          let b₁ : Bare s₀ (advanced s) = bare_piece h.bare (one_token h.bare.run.sound l) in
          named_it _ _ _ _
          (let b₂ : Bare s₀ (named input (advanced s) s.at k n) = bare_named b₁ s.at k n l name few k₂ k₇ k₄ k₅ in
          let r₂ : Run input text s (named input (advanced s) s.at k n) = name_it (go_on h.bare.run.sound l) s.at k n l name few (omega arith) k₇ (λ e. absurd (omega arith)) (λ e. absurd (omega arith)) (λ e. absurd (k₄ e)) (λ e. absurd (k₅ e)) in
          forbidden delimiter.bracket 6
          (λ _.
          at_token _
          (choose _
          (λ q.
          let p = one_token b₂.run.sound (of_kind b₂.run.sound (s.at + 1) delimiter.comma (omega arith) q) in
          over (gave (again (n + 1)) (record { bare = bare_piece b₂ p; long = omega (arith, h.long); most = omega arith }, λ m t z. (z.0, join r₂ (join p.run z.1), omega (arith, z.2)))))
          (λ _.
          expected keyword.of 7
          (λ q.
          let p = one_token b₂.run.sound (of_kind b₂.run.sound (s.at + 1) keyword.of (omega arith) q) in
          gave (done (n + 1)) (record { bare = bare_piece b₂ p; long = omega (arith, h.long); most = omega arith }, join r₂ p.run, omega arith)))))))

  put_ranges_it : {s : State} {Q : List Range → State → Type 0} (base : ℕ) (got : List Range) (n : ℕ) (r : Range) → Q (got ++ replicate n r) (ranged s (base + length got) n r) → Gives input (put_ranges base got n r) s Q
  unfolding put_ranges return
  put_ranges_it {s} base got n r h = record { is = (gave {input = input} (got ++ replicate n r) h).is }

  -- n more ranges
  more_ranges : {s₀ : State} → Sound input text s₀ → {got : List Range} {s t : State} → Fields s₀ got s → Run input text s t → Bare s₀ t → (n : ℕ) (r : Range) → Signable r.low → Signable r.high → s₀.at + length got + n < t.at → length got + n ≤ 8
      → Fields s₀ (got ++ replicate n r) (ranged t (s₀.at + length got) n r)
  more_ranges {s₀} x {got} {s} {t} f run b n r low high l eight =
      record {
        bare = bare_ranges x b (s₀.at + length got) n r (omega arith) (omega arith);
        long = omega (arith, length-append got (replicate n r), length-replicate n r);
        most = omega (arith, length-append got (replicate n r), length-replicate n r);
        ranges = λ k m. by k (ltb k (length got)) refl (omega (arith, m, length-append got (replicate n r), length-replicate n r));
        ends = λ k m. end k (ltb k (length got)) refl (omega (arith, m, length-append got (replicate n r), length-replicate n r));
      }
    where
      end : (k : ℕ) (c : Bool) → ltb k (length got) ≡ c → k < length got + n → Signable (get_or (got ++ replicate n r) k no_range).low × Signable (get_or (got ++ replicate n r) k no_range).high
      end k true q m =
          let o = ltb-true k (length got) q in
          subst (λ (x : Range). Signable x.low × Signable x.high) (sym (get_or-append got (replicate n r) no_range k o)) (f.ends k o)
      end k false q m =
          let o = ltb-false k (length got) q in
          let j = k - length got in
          let e' : length got + j ≡ k = omega arith in
          subst (λ (x : Range). Signable x.low × Signable x.high)
          (sym (ap (λ (z : ℕ). get_or (got ++ replicate n r) z no_range) (sym e') ∙ get_or-append-add got (replicate n r) j no_range ∙ get_or-replicate n j r no_range (omega arith))) (low, high)

      by : (k : ℕ) (c : Bool) → ltb k (length got) ≡ c → k < length got + n → range_at (with_ranges t.words (s₀.at + length got) n r) (s₀.at + k) ≡ get_or (got ++ replicate n r) k no_range
      by k true q m =
          let o = ltb-true k (length got) q in
          ranges_other t.words (s₀.at + length got) n r (s₀.at + k) (omega arith) ∙ kept f run k o ∙ sym (get_or-append got (replicate n r) no_range k o)
      by k false q m =
          let o = ltb-false k (length got) q in
          let j = k - length got in
          let e : s₀.at + k ≡ s₀.at + length got + j = omega arith in
          let e' : length got + j ≡ k = omega arith in
          ap (range_at (with_ranges t.words (s₀.at + length got) n r)) e
          ∙ ranged_at t.words (s₀.at + length got) n r (signable_decoded r.low low) (signable_decoded r.high high) (omega (arith, b.run.sound.size, b.run.sound.within, T.few)) j (omega arith)
          ∙ sym (ap (λ (z : ℕ). get_or (got ++ replicate n r) z no_range) (sym e') ∙ get_or-append-add got (replicate n r) j no_range ∙ get_or-replicate n j r no_range (omega arith))

  group_gives : {s₀ : State} → Sound input text s₀ → (got : List Range) (k : ℕ) → 2 < k → k < 7 → (k ≡ name_kind.variable → ⊥) → (k ≡ name_kind.index → ⊥) → {s t : State} → Fields s₀ got s → Run input text s t → Bare s₀ t → Gives input (read_group s₀.at got k) t (Fields s₀)
  unfolding read_group
  group_gives {s₀} x got k k₂ k₇ k₄ k₅ {s} {t} f run b =
      bind (names_gives k k₂ k₇ k₄ k₅ (length got) t (record { bare = b; long = omega (arith, f.long, run.on); most = f.most }))
      (λ n u h.
      bind (range_gives T 4294967296 h.0.bare.run.sound)
      (λ r v g.
      put_ranges_it s₀.at got (n - length got) r
      (more_ranges x f (join run (join h.1 g.piece.run)) (bare_piece h.0.bare g.piece) (n - length got) r g.low_in g.high_in (omega (arith, h.0.long, h.2, g.piece.far)) (omega (arith, h.0.most, h.2)))))

  fields_gives : {s₀ : State} → Sound input text s₀ → {s : State} → Fields s₀ [] s → Gives input (repeat turns (group_turn s₀.at) []) s (λ all t. Fields s₀ all t × (0 < length all))
  unfolding group_turn
  fields_gives {s₀} x {s} f = repeated (group_turn s₀.at) turn turns [] s f
    where
      turn : (got : List Range) (s : State) → Fields s₀ got s → Gives input (group_turn s₀.at got) s (Turned (Fields s₀) (λ _ _ all t. Fields s₀ all t × (0 < length all)) got s)
      turn got s f =
          let y : Sound input text s = f.bare.run.sound in
          at_token _
          (choose (is_kind (token_of input s s.at) keyword.end && ltb 0 (length got))
          (λ q.
          let both = and_both (is_kind (token_of input s s.at) keyword.end) (ltb 0 (length got)) q in
          let p = one_token y (of_kind y s.at keyword.end (omega arith) both.0) in
          over (gave (done got) (record { bare = bare_piece f.bare p; long = omega (arith, f.long); most = f.most; ranges = f.ranges; ends = f.ends }, ltb-true 0 (length got) both.1)))
          (λ _.
          choose (is_kind (token_of input s s.at) keyword.const)
          (λ q.
          let p = one_token y (of_kind y s.at keyword.const (omega arith) q) in
          made again (over (group_gives x got name_kind.const_field (omega arith) (omega arith) (λ e. absurd (omega arith)) (λ e. absurd (omega arith)) f p.run (bare_piece f.bare p))) (λ all t h. (h, λ r u z. z)))
          (λ _. made again (group_gives x got name_kind.field (omega arith) (omega arith) (λ e. absurd (omega arith)) (λ e. absurd (omega arith)) f (stay y) f.bare) (λ all t h. (h, λ r u z. z)))))

  -- the cell declaration: the `of` behind `dimensions` stands two tokens on
  pub record CellRead (s : State) (d : Declared) (t : State) : Type 0 where
    pub run : Run input text s t
    pub some_dims : 0 < d.cell.dims
    pub few_dims : d.cell.dims ≤ 3
    pub some_fields : 0 < length d.fields
    pub few_fields : length d.fields ≤ 8
    pub long : s.at + 2 + length d.fields < t.at
    pub ranges : (k : ℕ) → k < length d.fields → range_at t.words (s.at + 2 + k) ≡ get_or d.fields k no_range
    pub ends : (k : ℕ) → k < length d.fields → Signable (get_or d.fields k no_range).low × Signable (get_or d.fields k no_range).high

  pub cell_gives : {s : State} → Sound input text s → Gives input read_cell s (CellRead s)
  unfolding read_cell read_dims read_fields
  cell_gives {s} x =
      bind dims_gives
      (λ z t h.
      expected keyword.dimensions 7
      (λ q.
      let r₁ = join h.0.run (go_on h.0.run.sound (of_kind h.0.run.sound t.at keyword.dimensions (omega arith) q)) in
      let s₀ : State = advanced t in
      at_position _
      (expected keyword.of 7
      (λ q₁.
      let p = one_token r₁.sound (of_kind r₁.sound s₀.at keyword.of (omega arith) q₁) in
      let b : Bare s₀ (advanced s₀) = record { run = p.run; none = λ slot l m k. absurd (omega arith) } in
      let f : Fields s₀ [] (advanced s₀) = record { bare = b; long = omega arith; most = omega arith; ranges = λ k l. absurd (omega arith); ends = λ k l. absurd (omega arith) } in
      at_token _
      (at_kind_after _
      (choose (is_unnamed (token_of input (advanced s₀) (t.at + 1 + 1)) (kind_in (advanced s₀).words input.scan (t.at + 1 + 1 + 1)))
      (λ _. made (declared z false) (bind (range_gives T 4294967296 p.run.sound) (λ r u g. put_ranges_it {Q = λ all t. Fields s₀ all t × (0 < length all)} s₀.at [] 1 r (more_ranges r₁.sound f g.piece.run (bare_piece b g.piece) 1 r g.low_in g.high_in (omega (arith, g.piece.far)) (omega arith), omega arith))) (λ all u k. read_from z false h.2 h.1 r₁ k.0 k.1))
      (λ _. made (declared z true) (fields_gives r₁.sound f) (λ all u k. read_from z true h.2 h.1 r₁ k.0 k.1))))))))
    where
      dims_gives : Gives input read_dims s (λ z t. Piece input text s t × ((0 < encode_of z) × (encode_of z ≤ 3)) × (t.at ≡ s.at + 1))
      dims_gives = bind (constant_gives T x) (λ z t h. choose (within (pos 1) (pos 3) z) (λ q. gave z (h.0, some_dimensions z q, h.2)) (λ _. refused_last 40))

      read_from : (z : ℤ) (named : Bool) {t : State} → t.at ≡ s.at + 1 → (0 < encode_of z) × (encode_of z ≤ 3) → Run input text s (advanced t) → {all : List Range} {u : State} → Fields (advanced t) all u → 0 < length all → CellRead s (declared z named all) u
      read_from z named {t} e l r {all} {u} f some =
          record {
            run = join r f.bare.run;
            some_dims = l.0;
            few_dims = l.1;
            some_fields = some;
            few_fields = f.most;
            long = omega (arith, f.long);
            ranges = λ k m. let p : s.at + 2 + k ≡ t.at + 1 + k = omega arith in ap (range_at u.words) p ∙ f.ranges k m;
            ends = f.ends;
          }
