-- What the tokens of a source are like: a literal's value is a word, `:=` has none, and names, `cell` and `time` are told apart by their letters.
use Prim.Native.Nat.{ℕ, zero, suc, ◌+◌, ◌≤◌, ◌<◌}
use native.Mathlib.Omega.{arith}
use mathlib.Core.Path.{◌≡◌, refl, sym, ap, ap₂, ◌∙◌, subst}
use mathlib.Core.Bool.{Bool, true, false, not, ◌&&◌, ◌||◌}
use mathlib.Core.List.{List, [], ◌∷◌, map}
use lib.Dec.{eqb, leb, ltb}
use lib.ListN.{length, take, drop, get_or, length-drop}
use lib.Seq.{drop-cons, drop-drop}
use borrow.Author.Tests.{not-true, eqb-true, eqb-false, ltb-true, ltb-false, leb-false, ne_eqb}
use Rattle.token.proofs.Extents.{extent_within}
use Rattle.std.specs.Prelude.{if◌then◌else◌}
use Rattle.value.proofs.Theorems.Laws.{never, and_both}
use Rattle.token.specs.declared.Token.{Token}
use Rattle.token.specs.Bytes.{byte_kind, member, kind_of, fold, same}
use Rattle.token.specs.Kind.{kind, delimiter}
use Rattle.token.specs.Lexeme.{Spelled, keywords, two_byte_tokens, find_kind, starts, in_name, in_literal, extent, decimal, Lexeme, lexeme_of, unreadable, word, digits, punctuation, read_token}
use Rattle.token.specs.Scanning.{Scanned, blanks, stop_number, token_from, scan_from, scan}
use Rattle.names.specs.Names.{letters}

-- ---- spellings

pub same_lists : (xs ys : List ℕ) → same xs ys ≡ true → xs ≡ ys
unfolding same
same_lists [] [] e = refl
same_lists [] (y ∷ ys) e = never e
same_lists (x ∷ xs) [] e = never e
same_lists (x ∷ xs) (y ∷ ys) e = let h = and_both (eqb x y) (same xs ys) e in ap₂ (λ (a : ℕ) (b : List ℕ). a ∷ b) (eqb-true x y h.0) (same_lists xs ys h.1)

letters_here : (source : List ℕ) (n p : ℕ) → n ≤ length (drop p source) → map fold (take n (drop p source)) ≡ letters source p n
unfolding letters
letters_here source zero p l = refl
letters_here source (suc n) p l =
    let h : p < length source = omega (arith, length-drop p source) in
    let e : p + 1 ≡ suc p = omega arith in
    rw (drop-cons source p 0 h, ← e) (ap (λ (x : List ℕ). fold (get_or source p 0) ∷ x) (letters_here source n (p + 1) (omega (arith, length-drop p source, length-drop (p + 1) source))))

-- every kind that a list of spellings can give satisfies a test
unfoldable pub all_kinds : (ℕ → Bool) → List Spelled → Bool
all_kinds test [] = true
all_kinds test (s ∷ ss) = test s.kind && all_kinds test ss

pub kinds_kept : (test : ℕ → Bool) (w : List ℕ) (ss : List Spelled) (other : ℕ) → test other ≡ true → all_kinds test ss ≡ true → test (find_kind w ss other) ≡ true
unfolding find_kind all_kinds
kinds_kept test w [] other o a = o
kinds_kept test w (s ∷ ss) other o a = let h = and_both (test s.kind) (all_kinds test ss) a in by (same w s.letters) h.0 (kinds_kept test w ss other o h.1)
  where
    by : (c : Bool) → test s.kind ≡ true → test (find_kind w ss other) ≡ true → test (elim c [ true ↦ s.kind | false ↦ find_kind w ss other ]) ≡ true
    by true p q = p
    by false p q = q

-- ---- one token

-- a name, `cell` or `time`
unfoldable pub wordlike : ℕ → Bool
wordlike k = eqb k kind.name || eqb k kind.cell || eqb k kind.time

record Lex (s : List ℕ) (w : Lexeme) : Type 0 where
  pub small : w.value < 2147483648
  pub plain : w.kind ≡ delimiter.assign → w.value ≡ 0
  pub told : w.kind ≡ kind.stop → w.value ≡ 0 → ⊥
  pub spelled : wordlike w.kind ≡ true → w.kind ≡ find_kind (map fold (take w.len s)) keywords kind.name
  pub within : wordlike w.kind ≡ true → w.len ≤ length s

word_lex : (s : List ℕ) (n : ℕ) → n ≤ length s → Lex s (word s n)
unfolding word all_kinds
word_lex s n l =
    record {
      small = omega arith;
      plain = λ e. refl;
      told = λ e z. let k = find_kind (map fold (take n s)) keywords kind.name in omega (arith, ltb-true 0 k (kinds_kept (ltb 0) (map fold (take n s)) keywords kind.name refl refl));
      spelled = λ e. refl;
      within = λ e. l;
    }

-- a token that is no word, and whose value is small
other_lex : (s : List ℕ) (k n v : ℕ) → v < 2147483648 → (k ≡ delimiter.assign → v ≡ 0) → (k ≡ kind.stop → v ≡ 0 → ⊥) → wordlike k ≡ false → Lex s (lexeme_of k n v)
other_lex s k n v a b c d = record { small = a; plain = b; told = c; spelled = λ e. never (sym d ∙ e); within = λ e. never (sym d ∙ e) }

digits_lex : (s : List ℕ) (n : ℕ) → Lex s (digits s n)
unfolding digits wordlike
digits_lex s n = by (starts byte_kind.letter (drop n s) || starts byte_kind.underscore (drop n s)) (ltb 2147483647 (decimal 0 (take n s))) refl
  where
    by : (a b : Bool) → ltb 2147483647 (decimal 0 (take n s)) ≡ b → Lex s (if a then unreadable else if b then lexeme_of kind.stop n 4 else lexeme_of kind.literal n (decimal 0 (take n s)))
    by true b e = other_lex s kind.stop 1 3 (omega arith) (λ q. absurd (omega arith)) (λ q z. omega arith) refl
    by false true e = other_lex s kind.stop n 4 (omega arith) (λ q. absurd (omega arith)) (λ q z. omega arith) refl
    by false false e = other_lex s kind.literal n (decimal 0 (take n s)) (omega (arith, ltb-false 2147483647 (decimal 0 (take n s)) e)) (λ q. absurd (omega arith)) (λ q z. omega arith) refl

-- a byte that is a sign is no number of a word or a stop
pub sign_byte : (b : ℕ) → eqb (kind_of b) byte_kind.sign ≡ true → (b ≡ 0 → ⊥) × (wordlike b ≡ false)
unfolding kind_of wordlike member
sign_byte b e = (
  λ q. no 0 refl q,
  rw (ne_eqb b 1 (λ q. no 1 refl q), ne_eqb b 3 (λ q. no 3 refl q), ne_eqb b 4 (λ q. no 4 refl q)),
)
  where
    no : (c : ℕ) → eqb (kind_of c) byte_kind.sign ≡ false → b ≡ c → ⊥
    no c f q = never (sym f ∙ ap (λ (y : ℕ). eqb (kind_of y) byte_kind.sign) (sym q) ∙ e)

signs_lex : (b : ℕ) (bs : List ℕ) → eqb (kind_of b) byte_kind.sign ≡ true → Lex (b ∷ bs) (punctuation (b ∷ bs))
unfolding punctuation wordlike all_kinds
signs_lex b bs e = by (eqb two 0) refl (eqb b 34)
  where
    two : ℕ
    two = find_kind (take 2 (b ∷ bs)) two_byte_tokens 0

    by : (c : Bool) → eqb two 0 ≡ c → (d : Bool) → Lex (b ∷ bs) (if c then lexeme_of (if d then kind.refused else b) 1 0 else lexeme_of two 2 0)
    by true q true = other_lex (b ∷ bs) kind.refused 1 0 (omega arith) (λ _. refl) (λ p z. omega arith) refl
    by true q false = other_lex (b ∷ bs) b 1 0 (omega arith) (λ _. refl) (λ p z. (sign_byte b e).0 p) (sign_byte b e).1
    by false q d = other_lex (b ∷ bs) two 2 0 (omega arith) (λ _. refl) (λ p z. eqb-false two 0 q p) (not-true (wordlike two) (kinds_kept (λ k. not (wordlike k)) (take 2 (b ∷ bs)) two_byte_tokens 0 refl refl))

token_lex : (b : ℕ) (bs : List ℕ) → Lex (b ∷ bs) (read_token (b ∷ bs))
unfolding read_token starts wordlike
token_lex b bs = by (eqb (kind_of b) byte_kind.letter) (eqb (kind_of b) byte_kind.digit) (eqb (kind_of b) byte_kind.sign) refl
  where
    by : (l d c : Bool) → eqb (kind_of b) byte_kind.sign ≡ c
        → Lex (b ∷ bs) (if l then word (b ∷ bs) (extent in_name (b ∷ bs)) else if d then digits (b ∷ bs) (extent in_literal (b ∷ bs)) else if c then punctuation (b ∷ bs) else unreadable)
    by true d c e = word_lex (b ∷ bs) (extent in_name (b ∷ bs)) (extent_within in_name (b ∷ bs))
    by false true c e = digits_lex (b ∷ bs) (extent in_literal (b ∷ bs))
    by false false true e = signs_lex b bs e
    by false false false e = other_lex (b ∷ bs) kind.stop 1 3 (omega arith) (λ q. absurd (omega arith)) (λ q z. omega arith) refl

-- ---- all tokens

pub record Fit (source : List ℕ) (t : Token) : Type 0 where
  pub going : t.kind ≡ kind.stop → ⊥
  pub small : t.value < 2147483648
  pub plain : t.kind ≡ delimiter.assign → t.value ≡ 0
  pub inside : t.start < length source
  pub spelled : wordlike t.kind ≡ true → t.kind ≡ find_kind (letters source t.start t.len) keywords kind.name

abbrev pub All : (Token → Type 0) → List Token → Type 0
All P [] = Unit {0}
All P (t ∷ ts) = P t × All P ts

-- fewer than 4096 tokens stand before one at which scanning goes on, and that is no stop
goes_on : (count : ℕ) (s : List ℕ) (w : Lexeme) → Lex s w → stop_number count w ≡ 0 → (count < 4096) × (w.kind ≡ kind.stop → ⊥)
unfolding stop_number
goes_on count s w x e = by (eqb w.kind kind.stop) refl (leb 4096 count) refl (eqb w.kind kind.refused) e
  where
    by : (a : Bool) → eqb w.kind kind.stop ≡ a → (b : Bool) → leb 4096 count ≡ b → (c : Bool) → (if a then w.value else if b then 5 else if c then 6 else 0) ≡ 0 → (count < 4096) × (w.kind ≡ kind.stop → ⊥)
    by true p b q c e = absurd (x.told (eqb-true _ _ p) e)
    by false p true q c e = absurd (omega arith)
    by false p false q c e = (leb-false 4096 count q, eqb-false _ _ p)

pub record Good (source : List ℕ) (count : ℕ) (x : Scanned) : Type 0 where
  pub fit : All (Fit source) x.tokens
  pub few : count + length x.tokens ≤ 4096

scan_good : (source : List ℕ) (turns place count : ℕ) (s : List ℕ) → s ≡ drop place source → count ≤ 4096 → Good source count (scan_from turns place count s)
unfolding scan_from
scan_good source zero place count s e l = record { fit = tt; few = omega arith }
scan_good source (suc turns) place count s e l = go (drop (blanks false s) s) refl (scan_good source turns)
  where
    here : ℕ
    here = place + blanks false s

    go : (rest : List ℕ) → drop (blanks false s) s ≡ rest → ((place count : ℕ) (s : List ℕ) → s ≡ drop place source → count ≤ 4096 → Good source count (scan_from turns place count s)) → Good source count (scan_from (suc turns) place count s)
    go [] q more = rw (scan_from, q) (record { fit = tt; few = omega arith })
    go (b ∷ bs) q more = by (eqb (stop_number count w) 0) refl
      where
        w : Lexeme
        w = read_token (b ∷ bs)

        rest_is : b ∷ bs ≡ drop here source
        rest_is = sym q ∙ ap (drop (blanks false s)) e ∙ drop-drop (blanks false s) place source

        inside : here < length source
        inside = omega (arith, length-drop here source, ap length rest_is)

        x : Lex (b ∷ bs) w
        x = token_lex b bs

        fit : (w.kind ≡ kind.stop → ⊥) → Fit source (token_from w here)
        fit some = record {
          going = some;
          small = x.small;
          plain = x.plain;
          inside = inside;
          spelled = λ k.
              x.spelled k
              ∙ ap (λ (y : List ℕ). find_kind y keywords kind.name) (ap (λ (y : List ℕ). map fold (take w.len y)) rest_is ∙ letters_here source w.len here (subst (λ (y : List ℕ). w.len ≤ length y) rest_is (x.within k)));
        }

        by : (c : Bool) → eqb (stop_number count w) 0 ≡ c → Good source count (scan_from (suc turns) place count s)
        by false p = rw (scan_from, q, p) (record { fit = tt; few = omega arith })
        by true p =
            let g = goes_on count (b ∷ bs) w x (eqb-true _ _ p) in
            let m = more (here + w.len) (suc count) (drop w.len (b ∷ bs)) (ap (drop w.len) rest_is ∙ drop-drop w.len here source) g.0 in
            rw (scan_from, q, p) (record { fit = (fit g.1, m.fit); few = omega (arith, m.few) })

pub scanned_good : (source : List ℕ) → Good source 0 (scan source)
unfolding scan
scanned_good source = scan_good source (suc (length source)) 0 0 source refl (omega arith)
