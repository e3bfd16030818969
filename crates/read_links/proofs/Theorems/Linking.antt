-- The tree that reading gives for a source stands in the word table that reading leaves.
use Prim.Native.Nat.{ℕ, zero, suc, ◌+◌, ◌-◌, ◌*◌, ◌/◌, ◌%◌, ◌≤◌, ◌<◌}
use native.Mathlib.Omega.{arith}
use mathlib.Core.Path.{◌≡◌, refl, sym, ap, ap₂, ◌∙◌, subst}
use mathlib.Core.Logic.{◌⊎◌, inl, inr}
use mathlib.Core.Bool.{Bool, true, false}
use mathlib.Core.List.{List, [], ◌∷◌, ◌++◌}
use lib.Dec.{ltb}
use lib.ListN.{length, get_or, replicate, length-append, length-replicate, get_or-replicate, get_or-eq_default}
use lib.Seq.{get_or-append-add, ext_get_or}
use borrow.Author.Tests.{ltb-true, ltb-false, lt-ltb}
use Rattle.token.proofs.Scans.{words_long}
use Rattle.value.specs.Limits.{most_open}
use Rattle.value.specs.Worked.{decode_of}
use Rattle.automaton.specs.Promises.ListedLaws.{length_list_of, get_or_list_of}
use Rattle.token.specs.declared.Token.{Token}
use Rattle.token.specs.Kind.{kind, delimiter}
use Rattle.token.specs.Lexeme.{find_kind, keywords}
use Rattle.token.specs.Scanning.{scan, token_words, scanned_words}
use Rattle.names.specs.Names.{name_kind, entry_at, letters}
use mathlib.Core.Option.{Option}
use Rattle.program.specs.Syntax.{range, no_range, Expr, Clause, Block}
use Rattle.program.specs.Table.{word_at}
use Rattle.grammar.specs.Reader.{Input, unit}
use Rattle.grammar.specs.Source.{input_of, start_state, has_kind}
use Rattle.grammar.specs.Promises.Traces.{Trace}
use Rattle.cell_meaning.specs.Promises.Stands.{ranges_in, Stands}
use Rattle.cell_meaning.specs.Links.{table_of, word_in}
use Rattle.cell_meaning.specs.Written.{relatives_in_block}
use Rattle.cell_meaning.specs.Promises.Listing.{Writes}
use Rattle.read_links.proofs.Theorems.Runs.{tokens, head_at, span_at, Text, Signable, Sound, Run, join}
use Rattle.read_links.proofs.Theorems.Constants.{constants_gives}
use Rattle.read_links.proofs.Theorems.Naming.{token_kind, kind_at}
use Rattle.read_links.proofs.Theorems.Tables.{word_inside, known_left, View}
use Rattle.read_links.proofs.Theorems.Adding.{all_of}
use Rattle.read_links.proofs.Theorems.Choices.{BlockRead}
use Rattle.read_links.proofs.Theorems.Statements.{block_gives}
use Rattle.read_links.proofs.Theorems.Source.{CellRead, cell_gives}
use Rattle.read_links.proofs.Theorems.Proper.{Proper}
use Rattle.read_links.proofs.Theorems.Timed.{Timing, timed_stands}
use Rattle.read_links.proofs.Theorems.Scanning.{same_lists, wordlike, Fit, All, Good, scanned_good}

-- ---- the words of the tokens of a source

-- the token whose words stand at a position
pub record There (source words : List ℕ) (i : ℕ) : Type 0 where
  pub token : Token
  pub fit : Fit source token
  pub head : head_at words i ≡ token.kind
  pub span : span_at words i ≡ token.start + 65536 * token.len
  pub value : word_at words i 2 ≡ token.value
  pub unlinked : word_at words i 3 ≡ 0

there : (source : List ℕ) (ts : List Token) → All (Fit source) ts → (rest : List ℕ) (i : ℕ) → i < length ts → There source (token_words ts ++ rest) i
unfolding token_words
there source [] f rest i l = absurd (omega arith)
there source (t ∷ ts) f rest zero l = record { token = t; fit = f.0; head = refl; span = refl; value = refl; unlinked = refl }
there source (t ∷ ts) f rest (suc i) l =
    let h = there source ts f.1 rest i (omega arith) in
    let words = t.kind ∷ (t.start + 65536 * t.len) ∷ t.value ∷ 0 ∷ token_words ts ++ rest in
    let e : 4 * suc i ≡ suc (suc (suc (suc (4 * i)))) = omega arith in
    let e₁ : 4 * suc i + 1 ≡ suc (suc (suc (suc (4 * i + 1)))) = omega arith in
    let e₂ : 4 * suc i + 2 ≡ suc (suc (suc (suc (4 * i + 2)))) = omega arith in
    let e₃ : 4 * suc i + 3 ≡ suc (suc (suc (suc (4 * i + 3)))) = omega arith in
    record {
      token = h.token;
      fit = h.fit;
      head = ap (λ (j : ℕ). get_or words j 0) e ∙ h.head;
      span = ap (λ (j : ℕ). get_or words j 0) e₁ ∙ h.span;
      value = ap (λ (j : ℕ). get_or words j 0) e₂ ∙ h.value;
      unlinked = ap (λ (j : ℕ). get_or words j 0) e₃ ∙ h.unlinked;
    }

zeros : (n m : ℕ) → ◌≡◌ {A = ℕ} (get_or (replicate n 0) m 0) 0
zeros zero m = get_or-eq_default [] 0 {n = m} (omega arith)
zeros (suc n) zero = refl
zeros (suc n) (suc m) = zeros n m

-- behind the last token there are zeros
behind : (ts : List Token) (n j : ℕ) → 4 * length ts ≤ j → get_or (token_words ts ++ replicate n 0) j 0 ≡ 0
behind ts n j l =
    let m = j - length (token_words ts) in
    let e : j ≡ length (token_words ts) + m = omega (arith, words_long ts) in
    ap (λ (k : ℕ). get_or (token_words ts ++ replicate n 0) k 0) e ∙ get_or-append-add (token_words ts) (replicate n 0) m 0 ∙ zeros n m

-- ---- the text of a source

module _ (source : List ℕ) (short : length source ≤ 65535) where
  good : Good source 0 (scan source)
  good = scanned_good source

  -- the token at a position of the text
  pub at : (i : ℕ) → i < tokens (input_of source) → There source (scanned_words (scan source)) i
  unfolding scanned_words
  at i l = there source (scan source).tokens good.fit _ i l

  pub start_of : (i : ℕ) (l : i < tokens (input_of source)) → span_at (scanned_words (scan source)) i % 65536 ≡ (at i l).token.start
  start_of i l = let s = (at i l).span in let f = (at i l).fit.inside in omega arith

  len_of : (i : ℕ) (l : i < tokens (input_of source)) → span_at (scanned_words (scan source)) i / 65536 ≡ (at i l).token.len
  len_of i l = let s = (at i l).span in let f = (at i l).fit.inside in omega arith

  -- words 2 of all tokens, and of what lies behind
  value_of : (i : ℕ) → (word_at (scanned_words (scan source)) i 2 < 2147483648) × (head_at (scanned_words (scan source)) i ≡ delimiter.assign → word_at (scanned_words (scan source)) i 2 ≡ 0)
  unfolding scanned_words
  value_of i = by (ltb i (tokens (input_of source))) refl
    where
      by : (b : Bool) → ltb i (tokens (input_of source)) ≡ b → (word_at (scanned_words (scan source)) i 2 < 2147483648) × (head_at (scanned_words (scan source)) i ≡ delimiter.assign → word_at (scanned_words (scan source)) i 2 ≡ 0)
      by true q =
          let t = at i (ltb-true i (tokens (input_of source)) q) in
          (omega (arith, t.fit.small, t.value), λ e. t.value ∙ t.fit.plain (sym t.head ∙ e))
      by false q =
          let l = ltb-false i (tokens (input_of source)) q in
          let z : word_at (scanned_words (scan source)) i 2 ≡ 0 = behind (scan source).tokens (16384 - length (token_words (scan source).tokens)) (4 * i + 2) (omega arith) in
          (omega arith, λ e. z)

  -- words 3 of all tokens, and of what lies behind
  unlinked_at : (i : ℕ) → word_at (scanned_words (scan source)) i 3 ≡ 0
  unfolding scanned_words
  unlinked_at i = by (ltb i (tokens (input_of source))) refl
    where
      by : (b : Bool) → ltb i (tokens (input_of source)) ≡ b → word_at (scanned_words (scan source)) i 3 ≡ 0
      by true q = (at i (ltb-true i (tokens (input_of source)) q)).unlinked
      by false q = let l = ltb-false i (tokens (input_of source)) q in behind (scan source).tokens (16384 - length (token_words (scan source).tokens)) (4 * i + 3) (omega arith)

  -- the kind of a word, by its letters
  letters_at : ℕ → List ℕ
  letters_at i = letters source (span_at (scanned_words (scan source)) i % 65536) (span_at (scanned_words (scan source)) i / 65536)

  word_kind : (i : ℕ) → i < tokens (input_of source) → wordlike (head_at (scanned_words (scan source)) i) ≡ true → head_at (scanned_words (scan source)) i ≡ find_kind (letters_at i) keywords kind.name
  unfolding letters_at
  word_kind i l w =
      let t = at i l in
      t.head ∙ t.fit.spelled (ap wordlike (sym t.head) ∙ w) ∙ ap₂ (λ (a b : ℕ). find_kind (letters source a b) keywords kind.name) (sym (start_of i l)) (sym (len_of i l))

  pub text_of : Text (input_of source) (scanned_words (scan source))
  unfolding scanned_words wordlike letters_at
  text_of = record {
    few = omega (arith, good.few);
    size = length-append (token_words (scan source).tokens) (replicate (16384 - length (token_words (scan source).tokens)) 0) ∙ omega (arith, length-replicate {A = ℕ} (16384 - length (token_words (scan source).tokens)) 0, words_long (scan source).tokens, good.few);
    values = λ i. (value_of i).0;
    clean = λ i e. (value_of i).1 e;
    unlinked = unlinked_at;
    apart = λ i j l m name other alike.
        let e : letters_at j ≡ letters_at i = same_lists _ _ alike in
        let k : find_kind (letters_at j) keywords kind.name ≡ kind.name = ap (λ (y : List ℕ). find_kind y keywords kind.name) e ∙ sym (word_kind i l (rw name)) ∙ name in
        differ (head_at (scanned_words (scan source)) j) other (λ w. word_kind j m w ∙ k);
  }
    where
      differ : (h : ℕ) → (h ≡ kind.cell) ⊎ (h ≡ kind.time) → (wordlike h ≡ true → h ≡ kind.name) → ⊥
      differ h (inl e) k = let z = k (rw e) in omega arith
      differ h (inr e) k = let z = k (rw e) in omega arith

  start_sound : Sound (input_of source) (scanned_words (scan source)) (start_state (scan source))
  start_sound = record {
    size = text_of.size;
    within = omega arith;
    room = length-replicate {A = ℕ} 1024 0;
    most = omega arith;
    heads = λ i. refl;
    spans = λ i. refl;
    ahead = λ j l. refl;
    entries = λ slot l. absurd (omega arith);
    numbered = λ slot l. absurd (omega arith);
    rest = λ j l m. get_or-replicate 1024 j 0 0 m;
  }

-- ---- the whole source

-- what is left where the statements begin and behind them, of the states that reading passes
pub record Linked (source : List ℕ) (t : Trace source) : Type 0 where
  -- the statements stand in the table that is left
  pub body : Stands (table_of t.s₃.words (tokens (input_of source)) t.declaration.cell.dims) 0 t.body t.s₂.at
  -- the indices that are written in them are those of the tokens from there on
  pub indices : Writes (table_of t.s₃.words (tokens (input_of source)) t.declaration.cell.dims) [] t.s₂.at (tokens (input_of source)) (relatives_in_block [] t.body)
  -- a clause without a condition is the last
  pub proper : Proper t.body
  -- the ranges of the fields stand from the `of` behind `dimensions` on, two tokens behind the constants
  pub fields : t.declaration.fields ≡ ranges_in (table_of t.s₃.words (tokens (input_of source)) t.declaration.cell.dims) (t.s₁.at + 2) (length t.declaration.fields)
  pub fields_inside : t.s₁.at + 2 + length t.declaration.fields < t.s₂.at
  -- their ends are literals with at most one sign
  pub ends : (k : ℕ) → k < length t.declaration.fields → Signable (get_or t.declaration.fields k no_range).low × Signable (get_or t.declaration.fields k no_range).high
  pub some_dims : 0 < t.declaration.cell.dims
  pub few_dims : t.declaration.cell.dims ≤ 3
  pub some_fields : 0 < length t.declaration.fields
  pub few_fields : length t.declaration.fields ≤ 8
  pub few_tokens : tokens (input_of source) ≤ 4096
  -- nothing before the statements was written while they were read
  pub kept : (i : ℕ) → i < 4 * t.s₂.at → get_or t.s₃.words i 0 ≡ get_or t.s₂.words i 0
  pub inside : t.s₂.at ≤ tokens (input_of source)
  pub in_order : t.s₂.at ≤ t.s₃.at
  pub within : t.s₃.at ≤ tokens (input_of source)
  pub few_names : t.s₃.count ≤ 256
  -- the names are as in every state that reading can be in
  pub sound : Sound (input_of source) (scanned_words (scan source)) t.s₃
  -- and none is an index's
  pub no_index : (slot : ℕ) → slot < t.s₃.count → (entry_at t.s₃.names slot).kind ≡ name_kind.index → ⊥
  pub size : length t.s₃.words ≡ 16384
  -- the tokens are those of the source
  pub heads : (i : ℕ) → head_at t.s₃.words i ≡ head_at (scanned_words (scan source)) i
  pub spans : (i : ℕ) → span_at t.s₃.words i ≡ span_at (scanned_words (scan source)) i

-- so it is of every source of allowed length that is read so
pub linking : (source : List ℕ) → length source ≤ 65535 → (t : Trace source) → Linked source t
unfolding kind_at
linking source short t =
    record {
      body = whole.1 (λ e. omega (arith, t.stop)) t.s₃.words view;
      indices = subst (λ (n : ℕ). Writes (table_of t.s₃.words (tokens input) t.declaration.cell.dims) [] t.s₂.at n (relatives_in_block [] t.body)) at_end (all_of _ [] (whole.3 t.s₃.words view [] refl));
      proper = whole.2;
      fields = ext_get_or no_range t.declaration.fields _ (sym (length_list_of _ (length t.declaration.fields))) (λ k l. sym (field k l));
      fields_inside = cell.long;
      ends = cell.ends;
      some_dims = cell.some_dims;
      few_dims = cell.few_dims;
      some_fields = cell.some_fields;
      few_fields = cell.few_fields;
      few_tokens = T.few;
      kept = run.below;
      inside = cell.run.sound.within;
      in_order = run.on;
      within = run.sound.within;
      few_names = run.sound.most;
      sound = run.sound;
      no_index = λ slot l k. omega (arith, (join constants (join cell.run run)).shut slot (omega arith) l k, run.sound.most);
      size = run.sound.size;
      heads = run.sound.heads;
      spans = run.sound.spans;
    }
  where
    input : Input
    input = input_of source

    T : Text input (scanned_words (scan source))
    T = text_of source short

    constants : Run input (scanned_words (scan source)) (start_state (scan source)) t.s₁
    constants = (constants_gives T (start_sound source short)).is unit t.s₁ t.constants

    cell : CellRead T t.s₁ t.declaration t.s₂
    cell = (cell_gives T constants.sound).is t.declaration t.s₂ t.cell

    whole : BlockRead T t.declaration.cell cell.some_dims 0 t.s₂ t.body t.s₃
    whole = (block_gives T t.declaration.cell cell.some_dims most_open 0 (omega arith) t.s₂ cell.run.sound).is t.body t.s₃ t.block

    run : Run input (scanned_words (scan source)) t.s₂ t.s₃
    run = whole.0

    view : View input (scanned_words (scan source)) t.declaration.cell.dims t.s₃.words t.s₂ t.s₃
    view = record {
      final = record { heads = run.sound.heads; spans = run.sound.spans };
      later = λ j l m. refl;
      known = known_left t.declaration.cell.dims cell.run.sound run t.clear;
      clear = t.clear;
    }

    at_end : t.s₃.at ≡ tokens input
    at_end = by (ltb t.s₃.at (tokens input)) refl
      where
        by : (c : Bool) → ltb t.s₃.at (tokens input) ≡ c → t.s₃.at ≡ tokens input
        by true e =
            let l = ltb-true t.s₃.at (tokens input) e in
            let k : kind_at input (scanned_words (scan source)) t.s₃.at ≡ head_at (scanned_words (scan source)) t.s₃.at = rw (lt-ltb t.s₃.at (tokens input) l) in
            let u = at source short t.s₃.at l in
            absurd (u.fit.going (sym u.head ∙ sym k ∙ sym (token_kind run.sound t.s₃.at) ∙ t.stop))
        by false e = omega (arith, ltb-false t.s₃.at (tokens input) e, run.sound.within)

    field : (k : ℕ) → k < length t.declaration.fields → get_or (ranges_in (table_of t.s₃.words (tokens input) t.declaration.cell.dims) (t.s₁.at + 2) (length t.declaration.fields)) k no_range ≡ get_or t.declaration.fields k no_range
    field k l =
        let i = t.s₁.at + 2 + k in
        let m : i < tokens input = omega (arith, cell.long, cell.run.sound.within) in
        let w : (v : ℕ) → v < 4 → word_in t.s₃.words (tokens input) v i ≡ word_at t.s₂.words i v = λ v o. word_inside t.s₃.words (tokens input) v i m ∙ run.below (4 * i + v) (omega (arith, cell.long)) in
        get_or_list_of _ (length t.declaration.fields) k no_range l ∙ ap₂ (λ (x y : ℕ). range (decode_of x) (decode_of y)) (w 2 (omega arith)) (w 3 (omega arith)) ∙ cell.ranges k l

-- where `time` stands in the statements, a token of the source is `time`
pub timed_linked : {timed_expr : Expr → Bool} {timed_condition : Option Expr → Bool} {timed_clauses : List Clause → Bool} {timed : Block → Bool} → Timing timed_expr timed_condition timed_clauses timed → {source : List ℕ} {t : Trace source}
    → Linked source t → timed t.body ≡ true → has_kind kind.time t.s₃.words (tokens (input_of source)) ≡ true
timed_linked T {source} {t} x h = timed_stands T t.s₃.words (tokens (input_of source)) t.declaration.cell.dims 0 t.body t.s₂.at x.proper x.body h
