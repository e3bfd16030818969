-- The tokens of a source, read one after the other and written into the table.
use mathlib.Core.Path.{◌≡◌, refl, sym, ap, ◌∙◌}
use mathlib.Core.Bool.{false}
use mathlib.Core.List.{List, [], ◌∷◌, ◌++◌, append_assoc, append-nil}
use Prim.Native.Nat.{ℕ, suc, ◌+◌, ◌-◌, ◌*◌, ◌≤◌, ◌<◌}
use native.Mathlib.Nat.{not-suc-le-zero}
use native.Mathlib.Omega.{arith}
use lib.ListN.{length, take, drop, set, replicate, length-append, length-take, length-drop, drop_of_length-le}
use lib.Seq.{sets-eq, take_at, drop-drop}
use borrow.Author.Tests.{eq-eqb, ne_eqb, le-leb, lt-leb}
use Rattle.std.specs.Prelude.{Option, Some, None, unwrap_or}
use Rattle.std.proofs.lemmas.Option.{none-some, same_Some}
use Rattle.token.specs.Lexeme.{Lexeme, read_token}
use Rattle.token.specs.Scanning.{Scanned, blanks, stop_number, stopped, token_from, scan_from, scan, token_words, scanned_words, scan_of}
use Rattle.token.specs.declared.Token.{Token}
use Rattle.token.specs.declared.Scan.{Scan}
use Rattle.token.specs.declared.Lexed.{Lexed}
use Rattle.token.specs.Promises.Promises.{WalksTokens, ReadsToken, Stops, Fills, Scans}

-- ---- the number of the stop

module _ (count : ℕ) (t : Token) (h : 1 ≤ t.kind + t.value) where
  pub stop_itself : t.kind ≡ 0 → Stops count t (Some t.value)
  unfolding stop_number
  stop_itself e = record { is = simp (eq-eqb t.kind 0 e); some = λ z. omega (arith, e, h, same_Some _ _ z); few = λ z. absurd (none-some _ (sym z)) }

  module _ (d : t.kind ≡ 0 → ⊥) where
    pub stop_many : 4096 ≤ count → Stops count t (Some 5)
    unfolding stop_number
    stop_many l = record { is = simp (ne_eqb t.kind 0 d, le-leb 4096 count l); some = λ z. omega (arith, same_Some _ _ z); few = λ z. absurd (none-some _ (sym z)) }

    pub stop_refused : count < 4096 → t.kind ≡ 18 → Stops count t (Some 6)
    unfolding stop_number
    stop_refused l e = record { is = simp (ne_eqb t.kind 0 d, lt-leb 4096 count l, eq-eqb t.kind 18 e); some = λ z. omega (arith, same_Some _ _ z); few = λ z. absurd (none-some _ (sym z)) }

    pub stop_not : count < 4096 → (t.kind ≡ 18 → ⊥) → Stops count t None
    unfolding stop_number
    stop_not l e = record { is = simp (ne_eqb t.kind 0 d, lt-leb 4096 count l, ne_eqb t.kind 18 e); some = λ z. absurd (none-some _ z); few = λ z. l }

pub ruleset Stopping = (stop_itself, stop_many, stop_refused, stop_not)

-- ---- the words of tokens

words_more : (ts : List Token) (t : Token) → token_words (ts ++ t ∷ []) ≡ token_words ts ++ token_words (t ∷ [])
unfolding token_words
words_more [] t = refl
words_more (u ∷ ts) t = ap (λ (l : List ℕ). u.kind ∷ (u.start + 65536 * u.len) ∷ u.value ∷ 0 ∷ l) (words_more ts t)

pub words_long : (ts : List Token) → length (token_words ts) ≡ 4 * length ts
unfolding token_words
words_long [] = refl
words_long (t ∷ ts) = omega (arith, words_long ts)

-- four words, stored one after the other
pub store : (ws : List ℕ) (n a b c d : ℕ) → n + 4 ≤ length ws → set (set (set (set ws n a) (n + 1) b) (n + 2) c) (n + 3) d ≡ take n ws ++ (a ∷ b ∷ c ∷ d ∷ []) ++ drop (n + 4) ws
store ws n a b c d h =
    let p : n + 1 ≡ suc n = omega arith in
    let q : n + 2 ≡ suc (suc n) = omega arith in
    let r : n + 3 ≡ suc (suc (suc n)) = omega arith in
    rw (p, q, r) (sets-eq (a ∷ b ∷ c ∷ d ∷ []) ws n h)

-- after them, the beginning of the table is four words longer
front : (ws vs : List ℕ) (n k : ℕ) → n ≤ length ws → length vs ≡ k → take (n + k) (take n ws ++ vs ++ drop (n + k) ws) ≡ take n ws ++ vs
front ws vs n k h e = take_at (take n ws ++ vs) (drop (n + k) ws) (n + k) (simp (length-append, length-take) (omega arith))

-- ---- one turn of the scan

abbrev behind : List Token → Scanned → Scanned
behind ts x = record { tokens = ts ++ x.tokens; number = x.number; place = x.place; kind = x.kind }

behind_more : (ts us : List Token) (x : Scanned) → behind ts (behind us x) ≡ behind (ts ++ us) x
behind_more ts us x = ap (λ (l : List Token). record { tokens = l; number = x.number; place = x.place; kind = x.kind }) (sym (append_assoc ts us x.tokens))

behind_one : {t u : Token} {x y : Scanned} → t ≡ u → x ≡ y → behind (t ∷ []) x ≡ behind (u ∷ []) y
behind_one {u = u} {x = x} p q = ap (λ (a : Token). behind (a ∷ []) x) p ∙ ap (behind (u ∷ [])) q

module _ (turns place count : ℕ) (s : List ℕ) where
  scan_end : drop (blanks false s) s ≡ [] → scan_from (suc turns) place count s ≡ stopped 7 (place + blanks false s) 0
  unfolding scan_from
  scan_end e = rw (scan_from, e)

  scan_stop : (rest : List ℕ) → drop (blanks false s) s ≡ rest → 0 < length rest → (stop_number count (read_token rest) ≡ 0 → ⊥) → scan_from (suc turns) place count s ≡ stopped (stop_number count (read_token rest)) (place + blanks false s) (read_token rest).kind
  unfolding scan_from
  scan_stop [] e h d = absurd (not-suc-le-zero h)
  scan_stop (b ∷ bs) e h d = rw (scan_from, e, ne_eqb (stop_number count (read_token (b ∷ bs))) 0 d)

  scan_on : (rest : List ℕ) → drop (blanks false s) s ≡ rest → 0 < length rest → stop_number count (read_token rest) ≡ 0 → scan_from (suc turns) place count s ≡ behind (token_from (read_token rest) (place + blanks false s) ∷ []) (scan_from turns (place + blanks false s + (read_token rest).len) (suc count) (drop (read_token rest).len rest))
  unfolding scan_from
  scan_on [] e h d = absurd (not-suc-le-zero h)
  scan_on (b ∷ bs) e h d = rw (scan_from, e, eq-eqb (stop_number count (read_token (b ∷ bs))) 0 d)

-- ---- the scan

-- what is known after some turns: the tokens read so far stand in the table, and the whole scan is these and the scan of the rest
pub record Going (source ws : List ℕ) (place count : ℕ) : Type 0 where
  pub tokens : List Token
  pub turns : ℕ
  pub enough : length source ≤ turns + place
  pub within : place ≤ length source
  pub many : length tokens ≡ count
  pub few : count ≤ 4096
  pub long : length ws ≡ 16384
  pub written : take (4 * count) ws ≡ token_words tokens
  pub left : scan source ≡ behind tokens (scan_from (suc turns) place count (drop place source))

pub go_start : (source ws : List ℕ) {place : ℕ} → length ws ≡ 16384 → place ≡ 0 → Going source ws place 0
unfolding scan token_words
go_start source ws h e =
    record {
      tokens = [];
      turns = length source;
      enough = omega arith;
      within = omega arith;
      many = refl;
      few = omega arith;
      long = h;
      written = refl;
      left = rw e;
    }

-- the scan stops with number n at a place, where a token of kind k stands
stops : {source ws : List ℕ} {place count n at k : ℕ} (g : Going source ws place count) → scan_from (suc g.turns) place count (drop place source) ≡ stopped n at k → at ≤ length source → Fills source (record { count = count; number = n; place = at; kind = k }) ws
stops {source} {ws} {place} {count} {n} {at} {k} g e h =
    let all : scan source ≡ behind g.tokens (stopped n at k) = g.left ∙ ap (behind g.tokens) e in
    record {
      is = sym (ap scan_of all ∙ rw (append-nil, g.many));
      tokens = g.written ∙ sym (ap (λ (x : Scanned). token_words x.tokens) all ∙ rw append-nil);
      few = g.few;
      within = h;
    }

module _ (source ws : List ℕ) {place count : ℕ} (g : Going source ws place count) {at : ℕ} (w : WalksTokens (blanks false (drop place source)) source place at) where
  rest : drop (blanks false (drop place source)) (drop place source) ≡ drop at source
  rest = drop-drop (blanks false (drop place source)) place source ∙ rw (← w.is)

  inside : at ≤ length source
  inside = omega (arith, w.within, g.within, w.is)

  pub go_end : length source ≤ at → Fills source (record { count = count; number = 7; place = at; kind = 0 }) ws
  go_end h = stops g (scan_end g.turns place count (drop place source) (rest ∙ drop_of_length-le source h) ∙ rw (← w.is)) inside

  module _ (h : at < length source) {r : Lexed} (p : ReadsToken source at r) {o : Option ℕ} (q : Stops count r.token o) where
    some : 0 < length (drop at source)
    some = simp length-drop (omega arith)

    number : unwrap_or o 0 ≡ stop_number count (read_token (drop at source))
    number = q.is ∙ rw p.is

    kind : r.token.kind ≡ (read_token (drop at source)).kind
    kind = rw p.is

    pub go_stop : {n : ℕ} → o ≡ Some n → Fills source (record { count = count; number = n; place = at; kind = r.token.kind }) ws
    go_stop {n} u =
        let m : n ≡ stop_number count (read_token (drop at source)) = ap (λ (x : Option ℕ). unwrap_or x 0) (sym u) ∙ number in
        let d : n ≡ 0 → ⊥ = λ z. q.some (u ∙ ap Some z) in
        stops g (scan_stop g.turns place count (drop place source) (drop at source) rest some (λ e. d (m ∙ e)) ∙ rw (← m, ← w.is, ← kind)) inside

    pub go_on : o ≡ None → {ws' : List ℕ} → ws' ≡ take (4 * count) ws ++ token_words (r.token ∷ []) ++ drop (4 * count + 4) ws → Going source ws' r.next.at (count + 1)
    unfolding token_words
    go_on u {ws'} e =
        let z : stop_number count (read_token (drop at source)) ≡ 0 = sym number ∙ rw u in
        let few = q.few u in
        let read : Lexeme = read_token (drop at source) in
        let turn = scan_on g.turns place count (drop place source) (drop at source) rest some z in
        let token : token_from read (place + blanks false (drop place source)) ≡ r.token = rw (← w.is, p.is) in
        let more : g.turns ≡ suc (g.turns - 1) = omega (arith, g.enough, p.onward, p.within, w.is) in
        let len : r.token.len ≡ read.len = rw p.is in
        let there : place + blanks false (drop place source) + read.len ≡ r.next.at = omega (arith, p.behind, w.is, len) in
        let one : suc count ≡ count + 1 = omega arith in
        let end : at + read.len ≡ r.next.at = omega (arith, p.behind, len) in
        let past : drop read.len (drop at source) ≡ drop r.next.at source = drop-drop read.len at source ∙ rw end in
        let next : scan_from g.turns (place + blanks false (drop place source) + read.len) (suc count) (drop read.len (drop at source)) ≡ scan_from (suc (g.turns - 1)) r.next.at (count + 1) (drop r.next.at source) = cc in
        let size : 4 * (count + 1) ≡ 4 * count + 4 = omega arith in
        record {
          tokens = g.tokens ++ r.token ∷ [];
          turns = g.turns - 1;
          enough = omega (arith, g.enough, p.onward, p.within, w.is);
          within = p.within;
          many = length-append g.tokens (r.token ∷ []) ∙ omega (arith, g.many);
          few = omega (arith, few, g.few);
          long = ap length e ∙ simp (length-append, length-take, length-drop) (omega (arith, g.long, g.few, few));
          written =
              rw (size, e) (front ws (token_words (r.token ∷ [])) (4 * count) 4 (omega (arith, g.long, g.few)) refl
              ∙ ap (λ (l : List ℕ). l ++ token_words (r.token ∷ [])) g.written ∙ sym (words_more g.tokens r.token));
          left =
              g.left ∙ ap (behind g.tokens) (turn ∙ behind_one token next)
              ∙ behind_more g.tokens (r.token ∷ []) _;
        }

pub ruleset Goes = (go_start, go_end, go_stop, go_on)

-- ---- the whole table

pub scans : (source ws ys : List ℕ) {r : Scan} → Fills source r ws → length ws ≡ 16384 → ys ≡ replicate (length (take (length ws - 4 * r.count) (drop (4 * r.count) ws))) 0 → Scans source r (take (4 * r.count) ws ++ (ys ++ drop (length ws - 4 * r.count) (drop (4 * r.count) ws)))
unfolding scanned_words
scans source ws ys {r} f h e =
    let a : ℕ = 4 * r.count in
    let count : r.count ≡ length (scan source).tokens = rw f.is in
    let none : drop (length ws - a) (drop a ws) ≡ [] = drop_of_length-le (drop a ws) {i = length ws - a} (omega (arith, length-drop a ws)) in
    let size : length (take (length ws - a) (drop a ws)) ≡ 16384 - length (token_words (scan source).tokens) =
    omega (arith, length-take (length ws - a) (drop a ws), length-drop a ws, words_long (scan source).tokens) in
    record {
      is = f.is;
      words = rw (none, append-nil ys, e, size, f.tokens);
      few = f.few;
      within = f.within;
    }
