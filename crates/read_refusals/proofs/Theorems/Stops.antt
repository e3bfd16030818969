-- The stop behind the tokens of a source refuses it: by its number, at a place within the source.
use Prim.Native.Nat.{ℕ, zero, suc, ◌+◌, ◌≤◌, ◌<◌}
use native.Mathlib.Omega.{arith}
use mathlib.Core.Path.{◌≡◌, refl, sym, ap, ◌∙◌}
use mathlib.Core.Bool.{Bool, true, false, ◌&&◌, ◌||◌}
use mathlib.Core.List.{List, [], ◌∷◌, map}
use lib.Dec.{eqb, leb, ltb}
use lib.ListN.{length, take, drop, length-take, length-drop}
use lib.Seq.{drop-drop}
use borrow.Author.Tests.{eqb-true, ltb-true, leb-true}
use Rattle.token.proofs.Extents.{extent_within}
use Rattle.token.proofs.Blanks.{blanks_within}
use Rattle.value.specs.Limits.{most_tokens}
use Rattle.std.specs.Prelude.{if◌then◌else◌}
use Rattle.value.proofs.Theorems.Laws.{never, and_both}
use Rattle.token.specs.Bytes.{byte_kind, kind_of, fold, same}
use Rattle.token.specs.Kind.{kind}
use Rattle.token.specs.Lexeme.{Spelled, keywords, two_byte_tokens, find_kind, starts, in_name, in_literal, extent, decimal, Lexeme, lexeme_of, unreadable, word, digits, punctuation, read_token}
use Rattle.token.specs.Scanning.{blanks, stop_number, scan_from, scan}
use Rattle.read_links.proofs.Theorems.Scanning.{same_lists, all_kinds, kinds_kept, sign_byte}
use Rattle.read_refusals.proofs.Theorems.Numbers.{is_refusal, Refuses}

-- ---- one token

-- where no token can be read its number refuses; a token is no longer than the text
record Lex (s : List ℕ) (w : Lexeme) : Type 0 where
  pub told : eqb w.kind kind.stop ≡ true → is_refusal w.value ≡ true
  pub within : w.len ≤ length s

word_lex : (s : List ℕ) (n : ℕ) → n ≤ length s → Lex s (word s n)
unfolding word all_kinds
word_lex s n l =
    let k = find_kind (map fold (take n s)) keywords kind.name in
    record { told = λ e. absurd (omega (arith, eqb-true k 0 e, ltb-true 0 k (kinds_kept (ltb 0) (map fold (take n s)) keywords kind.name refl refl))); within = l }

digits_lex : (s : List ℕ) (n : ℕ) → 0 < length s → n ≤ length s → Lex s (digits s n)
unfolding digits
digits_lex s n some l = by (starts byte_kind.letter (drop n s) || starts byte_kind.underscore (drop n s)) (ltb 2147483647 (decimal 0 (take n s)))
  where
    by : (a b : Bool) → Lex s (if a then unreadable else if b then lexeme_of kind.stop n 4 else lexeme_of kind.literal n (decimal 0 (take n s)))
    by true b = record { told = λ e. refl; within = some }
    by false true = record { told = λ e. refl; within = l }
    by false false = record { told = λ e. never e; within = l }

-- what is found among spellings of at least so many letters has as many
unfoldable all_long : ℕ → List Spelled → Bool
all_long n [] = true
all_long n (s ∷ ss) = leb n (length s.letters) && all_long n ss

found_long : (n : ℕ) (w : List ℕ) (ss : List Spelled) → all_long n ss ≡ true → eqb (find_kind w ss 0) 0 ≡ false → n ≤ length w
unfolding find_kind all_long
found_long n w [] a e = never (sym e)
found_long n w (s ∷ ss) a e = let h = and_both (leb n (length s.letters)) (all_long n ss) a in by (same w s.letters) refl (leb-true _ _ h.0) (found_long n w ss h.1) e
  where
    by : (c : Bool) → same w s.letters ≡ c → n ≤ length s.letters → (eqb (find_kind w ss 0) 0 ≡ false → n ≤ length w)
        → eqb (elim c [ true ↦ s.kind | false ↦ find_kind w ss 0 ]) 0 ≡ false → n ≤ length w
    by true q l more e = omega (arith, ap length (same_lists w s.letters q))
    by false q l more e = more e

signs_lex : (b : ℕ) (bs : List ℕ) → eqb (kind_of b) byte_kind.sign ≡ true → Lex (b ∷ bs) (punctuation (b ∷ bs))
unfolding punctuation all_long
signs_lex b bs e = by (eqb two 0) refl (eqb b 34)
  where
    two : ℕ
    two = find_kind (take 2 (b ∷ bs)) two_byte_tokens 0

    by : (c : Bool) → eqb two 0 ≡ c → (d : Bool) → Lex (b ∷ bs) (if c then lexeme_of (if d then kind.refused else b) 1 0 else lexeme_of two 2 0)
    by true q true = record { told = λ p. never p; within = omega arith }
    by true q false = record { told = λ p. absurd ((sign_byte b e).0 (eqb-true b 0 p)); within = omega arith }
    by false q d = record { told = λ p. never (sym q ∙ p); within = omega (arith, found_long 2 (take 2 (b ∷ bs)) two_byte_tokens refl q, length-take 2 (b ∷ bs)) }

token_lex : (b : ℕ) (bs : List ℕ) → Lex (b ∷ bs) (read_token (b ∷ bs))
unfolding read_token starts
token_lex b bs = by (eqb (kind_of b) byte_kind.letter) (eqb (kind_of b) byte_kind.digit) (eqb (kind_of b) byte_kind.sign) refl
  where
    by : (l d c : Bool) → eqb (kind_of b) byte_kind.sign ≡ c
        → Lex (b ∷ bs) (if l then word (b ∷ bs) (extent in_name (b ∷ bs)) else if d then digits (b ∷ bs) (extent in_literal (b ∷ bs)) else if c then punctuation (b ∷ bs) else unreadable)
    by true d c e = word_lex (b ∷ bs) (extent in_name (b ∷ bs)) (extent_within in_name (b ∷ bs))
    by false true c e = digits_lex (b ∷ bs) (extent in_literal (b ∷ bs)) (omega arith) (extent_within in_literal (b ∷ bs))
    by false false true e = signs_lex b bs e
    by false false false e = record { told = λ p. refl; within = omega arith }

-- ---- the stop

stop_refuses : (count : ℕ) (w : Lexeme) → (eqb w.kind kind.stop ≡ true → is_refusal w.value ≡ true) → eqb (stop_number count w) 0 ≡ false → is_refusal (stop_number count w) ≡ true
unfolding stop_number
stop_refuses count w told = by (eqb w.kind kind.stop) told (leb most_tokens count) (eqb w.kind kind.refused)
  where
    by : (a : Bool) → (a ≡ true → is_refusal w.value ≡ true) → (b c : Bool) → eqb (if a then w.value else if b then 5 else if c then 6 else 0) 0 ≡ false
        → is_refusal (if a then w.value else if b then 5 else if c then 6 else 0) ≡ true
    by true t b c e = t refl
    by false t true c e = refl
    by false t false true e = refl
    by false t false false e = never (sym e)

scan_stops : (source : List ℕ) (turns place count : ℕ) (s : List ℕ) → s ≡ drop place source → place ≤ length source → Refuses source (scan_from turns place count s).number (scan_from turns place count s).place
unfolding scan_from
scan_stops source zero place count s e l = record { number = refl; place = l }
scan_stops source (suc turns) place count s e l = go (drop (blanks false s) s) refl (scan_stops source turns)
  where
    here : ℕ
    here = place + blanks false s

    within : here ≤ length source
    within = omega (arith, blanks_within false s, ap length e, length-drop place source)

    go : (rest : List ℕ) → drop (blanks false s) s ≡ rest
        → ((place count : ℕ) (s : List ℕ) → s ≡ drop place source → place ≤ length source → Refuses source (scan_from turns place count s).number (scan_from turns place count s).place)
        → Refuses source (scan_from (suc turns) place count s).number (scan_from (suc turns) place count s).place
    go [] q more = rw (scan_from, q) (record { number = refl; place = within })
    go (b ∷ bs) q more = by (eqb (stop_number count w) 0) refl
      where
        w : Lexeme
        w = read_token (b ∷ bs)

        rest_is : b ∷ bs ≡ drop here source
        rest_is = sym q ∙ ap (drop (blanks false s)) e ∙ drop-drop (blanks false s) place source

        by : (c : Bool) → eqb (stop_number count w) 0 ≡ c → Refuses source (scan_from (suc turns) place count s).number (scan_from (suc turns) place count s).place
        by false p = rw (scan_from, q, p) (record { number = stop_refuses count w (token_lex b bs).told p; place = within })
        by true p =
            rw (scan_from, q, p)
            (more (here + w.len) (suc count) (drop w.len (b ∷ bs)) (ap (drop w.len) rest_is ∙ drop-drop w.len here source)
            (omega (arith, within, (token_lex b bs).within, ap length rest_is, length-drop here source)))

pub scan_refuses : (source : List ℕ) → Refuses source (scan source).number (scan source).place
unfolding scan
scan_refuses source = scan_stops source (suc (length source)) 0 0 source refl (omega arith)
