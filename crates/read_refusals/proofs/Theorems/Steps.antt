-- Readers that refuse only by a number that refuses and at a place within the source, and the laws for putting them together.
use Prim.Native.Nat.{ℕ, zero, suc, ◌+◌, ◌-◌, ◌*◌, ◌%◌, ◌≤◌}
use native.Mathlib.Omega.{arith}
use mathlib.Core.Path.{◌≡◌, refl, sym, ap, ◌∙◌}
use mathlib.Core.Bool.{Bool, true, false, ◌&&◌}
use mathlib.Core.List.{List}
use mathlib.Core.Option.{Option, none, some}
use lib.Dec.{eqb, leb, ltb}
use lib.ListN.{length}
use lib.Seq.{get_or-set_other}
use borrow.Author.Tests.{eqb-true, ltb-true, leb-true}
use Rattle.std.specs.Prelude.{if◌then◌else◌}
use Rattle.value.specs.Worked.{encode_of}
use Rattle.value.proofs.Theorems.Laws.{and_both}
use Rattle.token.specs.declared.Token.{Token}
use Rattle.token.specs.Kind.{kind}
use Rattle.token.specs.Scanning.{scan, scanned_words, token_at, stop_of, token_in}
use Rattle.names.specs.Names.{find_name}
use Rattle.program.specs.Syntax.{Range}
use Rattle.program.specs.Table.{with_word}
use Rattle.program.specs.Refusal.{Refusal, refusal}
use Rattle.grammar.specs.Ranking.{rank, first_number, before, first_of, broken}
use Rattle.grammar.specs.Reader.{State, Result, ok, fail, Reader, and_then, ◌>>=◌, return, Turn, again, done, turned, get_state, token_of, refuse, refuse_last, note, repeat, next_token, kind_after, position, advance, put, on_slot, by_name, entry_in, declare, release}
use Rattle.grammar.specs.Source.{input_of, with_ranges, put_ranges}
use Rattle.read_links.proofs.Theorems.Runs.{tokens, head_at, span_at}
use Rattle.read_links.proofs.Theorems.Linking.{at, start_of}
use Rattle.read_refusals.proofs.Theorems.Numbers.{is_refusal, Refuses}
use Rattle.read_refusals.proofs.Theorems.Stops.{scan_refuses}

-- ---- states and ends

-- the words of tokens in which their kinds and places stand are those that scanning has left, and a noted refusal refuses
pub record Kept (source : List ℕ) (s : State) : Type 0 where
  pub heads : (i : ℕ) → head_at s.words i ≡ head_at (scanned_words (scan source)) i
  pub spans : (i : ℕ) → span_at s.words i ≡ span_at (scanned_words (scan source)) i
  pub noted : eqb s.noted.number 0 ≡ false → Refuses source s.noted.number s.noted.place

-- a reading that goes on keeps this, and one that is refused refuses
abbrev pub Ends : {A : Type 0} → List ℕ → Result (A × State) → Type 0
Ends source (ok r) = Kept source r.1
Ends source (fail n p) = Refuses source n p

pub record Fine {A : Type 0} (source : List ℕ) (m : Reader A) : Type 0 where
  pub is : (s : State) → Kept source s → Ends source (m (input_of source) s)

-- ---- words

-- the words of tokens in which their kinds and places stand are the same
record Same (words old : List ℕ) : Type 0 where
  pub heads : (j : ℕ) → head_at words j ≡ head_at old j
  pub spans : (j : ℕ) → span_at words j ≡ span_at old j

word_same : (words : List ℕ) (i w v : ℕ) → (leb 2 w && leb w 3) ≡ true → Same (with_word words i w v) words
word_same words i w v e =
    let b = and_both (leb 2 w) (leb w 3) e in
    let lo = leb-true 2 w b.0 in
    let hi = leb-true w 3 b.1 in
    record {
      heads = λ j. get_or-set_other words (4 * i + w) (4 * j) v 0 (λ q. omega arith);
      spans = λ j. get_or-set_other words (4 * i + w) (4 * j + 1) v 0 (λ q. omega arith);
    }

ranges_same : (words : List ℕ) (i n : ℕ) (r : Range) → Same (with_ranges words i n r) words
unfolding with_ranges
ranges_same words i zero r = record { heads = λ j. refl; spans = λ j. refl }
ranges_same words i (suc n) r =
    let x = ranges_same words i n r in
    let low = word_same (with_ranges words i n r) (i + n) 2 (encode_of r.low) refl in
    let high = word_same (with_word (with_ranges words i n r) (i + n) 2 (encode_of r.low)) (i + n) 3 (encode_of r.high) refl in
    record { heads = λ j. high.heads j ∙ low.heads j ∙ x.heads j; spans = λ j. high.spans j ∙ low.spans j ∙ x.spans j }

-- ---- putting readers together

module _ {source : List ℕ} where
  pub bind : {A B : Type 0} {m : Reader A} {f : A → Reader B} → Fine source m → ((a : A) → Fine source (f a)) → Fine source (m >>= f)
  unfolding ◌>>=◌
  bind {A} {B} {m} {f} x k = record { is = λ s h. go (m (input_of source) s) (x.is s h) }
    where
      go : (r : Result (A × State)) → Ends source r → Ends source (and_then r (λ a t. f a (input_of source) t))
      go (ok r) e = (k r.0).is r.1 e
      go (fail n p) e = e

  pub returned : {A : Type 0} (a : A) → Fine source (return a)
  unfolding return
  returned a = record { is = λ s h. h }

  pub choose : {A : Type 0} (b : Bool) {m k : Reader A} → Fine source m → Fine source k → Fine source (if b then m else k)
  choose true x y = x
  choose false x y = y

  pub found : {A : Type 0} (t : Token) (fields : Bool) {f : ℕ → Reader A} {m : Reader A} → ((slot : ℕ) → Fine source (f slot)) → Fine source m → Fine source (by_name t fields f m)
  unfolding by_name
  found {A} t fields {f} {m} x y = record { is = λ s h. go s h (find_name source s.names s.count fields t.start t.len) }
    where
      go : (s : State) → Kept source s → (o : Option ℕ) → Ends source (on_slot o (λ slot. f slot (input_of source) s) (m (input_of source) s))
      go s h (some slot) = (x slot).is s h
      go s h none = y.is s h

  -- ---- steps that look

  pub looked : Fine source next_token
  unfolding next_token
  looked = record { is = λ s h. h }

  pub looked_behind : Fine source kind_after
  unfolding kind_after
  looked_behind = record { is = λ s h. h }

  pub placed : Fine source position
  unfolding position
  placed = record { is = λ s h. h }

  pub stated : Fine source get_state
  unfolding get_state
  stated = record { is = λ s h. h }

  pub entered : (slot : ℕ) → Fine source (entry_in slot)
  unfolding entry_in
  entered slot = record { is = λ s h. h }

  -- ---- steps that change the state

  pub advanced : Fine source advance
  unfolding advance
  advanced = record { is = λ s h. record { heads = h.heads; spans = h.spans; noted = h.noted } }

  pub named : (i k v : ℕ) → Fine source (declare i k v)
  unfolding declare
  named i k v = record { is = λ s h. record { heads = h.heads; spans = h.spans; noted = h.noted } }

  pub released : (slot : ℕ) → Fine source (release slot)
  unfolding release
  released slot = record { is = λ s h. record { heads = h.heads; spans = h.spans; noted = h.noted } }

  -- words 2 and 3 of a token may be written
  pub wrote : (i w v : ℕ) → (leb 2 w && leb w 3) ≡ true → Fine source (put i w v)
  unfolding put
  wrote i w v e =
      record { is = λ s h. let x = word_same s.words i w v e in record { heads = λ j. x.heads j ∙ h.heads j; spans = λ j. x.spans j ∙ h.spans j; noted = h.noted } }

  pub ranged : (base : ℕ) (got : List Range) (n : ℕ) (r : Range) → Fine source (put_ranges base got n r)
  unfolding put_ranges
  ranged base got n r =
      record { is = λ s h. let x = ranges_same s.words (base + length got) n r in record { heads = λ j. x.heads j ∙ h.heads j; spans = λ j. x.spans j ∙ h.spans j; noted = h.noted } }

-- ---- refusals

-- the first of two numbers that refuse refuses
first_refusal : (a b : ℕ) → is_refusal a ≡ true → is_refusal b ≡ true → is_refusal (first_number a b) ≡ true
unfolding first_number
first_refusal a b x y = by (leb (rank a) (rank b))
  where
    by : (c : Bool) → is_refusal (if c then a else b) ≡ true
    by true = x
    by false = y

-- the first of a noted refusal and one that refuses refuses
first_refuses : {source : List ℕ} (a : Refusal) {n p : ℕ} → (eqb a.number 0 ≡ false → Refuses source a.number a.place) → Refuses source n p
    → Refuses source (first_of a (refusal n p)).number (first_of a (refusal n p)).place
unfolding first_of
first_refuses {source} a {n} {p} x y = by (eqb a.number 0) x (before a (refusal n p))
  where
    by : (b : Bool) → (b ≡ false → Refuses source a.number a.place) → (c : Bool)
        → Refuses source (if b then refusal n p else if c then a else refusal n p).number (if b then refusal n p else if c then a else refusal n p).place
    by true x c = y
    by false x true = x refl
    by false x false = y

module _ (source : List ℕ) (short : length source ≤ 65535) where
  -- a token stands within the source, and if it is a stop its number refuses
  record Stands (t : Token) : Type 0 where
    pub told : eqb t.kind kind.stop ≡ true → is_refusal t.value ≡ true
    pub place : t.start ≤ length source

  stands : (s : State) → Kept source s → (i : ℕ) → Stands (token_of (input_of source) s i)
  unfolding token_in
  stands s h i = by (ltb i (tokens (input_of source))) refl
    where
      by : (b : Bool) → ltb i (tokens (input_of source)) ≡ b → Stands (if b then token_at s.words i else stop_of (input_of source).scan)
      by true q =
          let l = ltb-true i (tokens (input_of source)) q in
          let t = at source short i l in
          record {
            told = λ e. absurd (t.fit.going (sym t.head ∙ sym (h.heads i) ∙ eqb-true _ _ e));
            place = let e : span_at s.words i % 65536 ≡ t.token.start = ap (λ (x : ℕ). x % 65536) (h.spans i) ∙ start_of source short i l in omega (arith, t.fit.inside);
          }
      by false q = record { told = λ e. (scan_refuses source).number; place = (scan_refuses source).place }

  -- rule n is broken at a token
  breaks : {t : Token} (n : ℕ) → is_refusal n ≡ true → Stands t → Refuses source (broken n t).number (broken n t).place
  unfolding broken
  breaks {t} n e x = record { number = by (eqb t.kind kind.stop) x.told; place = x.place }
    where
      by : (b : Bool) → (b ≡ true → is_refusal t.value ≡ true) → is_refusal (if b then first_number t.value n else n) ≡ true
      by true y = first_refusal t.value n (y refl) e
      by false y = e

  pub refused : {A : Type 0} (n : ℕ) → is_refusal n ≡ true → Fine {A = A} source (refuse n)
  unfolding refuse
  refused n e = record { is = λ s h. first_refuses s.noted h.noted (breaks n e (stands s h s.at)) }

  pub refused_last : {A : Type 0} (n : ℕ) → is_refusal n ≡ true → Fine {A = A} source (refuse_last n)
  unfolding refuse_last
  refused_last n e = record { is = λ s h. first_refuses s.noted h.noted (breaks n e (stands s h (s.at - 1))) }

  pub noting : (n : ℕ) → is_refusal n ≡ true → Fine source (note n)
  unfolding note
  noting n e =
      record { is = λ s h. record { heads = h.heads; spans = h.spans; noted = λ _. first_refuses s.noted h.noted (record { number = e; place = (stands s h s.at).place }) } }

  pub repeated : {S R : Type 0} (n : ℕ) {body : S → Reader (Turn S R)} (x : S) → ((y : S) → Fine source (body y)) → Fine source (repeat n body x)
  unfolding repeat
  repeated zero x k = refused _ refl
  repeated {S} {R} (suc n) {body} x k = bind (k x) (λ t. go t (λ y. repeated n y k))
    where
      go : (t : Turn S R) → ((y : S) → Fine source (repeat n body y)) → Fine source (turned t (λ y. repeat n body y))
      go (again y) more = more y
      go (done r) more = returned r
