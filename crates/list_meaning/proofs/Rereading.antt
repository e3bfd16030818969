-- Reading a line that the writer wrote.
use Rattle.std.specs.Prelude.{ℕ, suc, ◌-◌, ◌≤◌, ◌<◌, ◌≡◌, true, false, length, ℤ, pos, negsuc, nat_abs}
use Rattle.std.proofs.Common.{arith, ◌∙◌}
use Rattle.std.proofs.Math.Path.{refl, sym, ap}
use mathlib.Core.List.{List, [], ◌∷◌, ◌++◌, map, append_assoc, append-nil}
use Rattle.std.proofs.Math.Option.{Option, some, none}
use Rattle.std.proofs.Math.Dec.{eqb}
use Rattle.token.specs.Bytes.{kind_of, member}
use Rattle.token.specs.Lexeme.{starts, lexeme_of}
use Rattle.list_meaning.specs.Text.{line, in_front, lines, Piece, literal, sign, with_piece, literal_at, pieces}
use Rattle.list_meaning.specs.Lines.{Said, before_values, with_index, time, cell, indexed, indices, values, assigned, said_by, say, said, said_in, cell_with, cell_of_index}
use Rattle.list_meaning.specs.Writing.{print_number, print_value, print_field, listed, cell_line}
use Rattle.list_meaning.specs.Promises.Printing.{PrintedDigits, digit_kind, Literal, print_literal, Apart, read_literal}
use Rattle.list_meaning.specs.Promises.Rereading.{prefixed, ReadAs, value_pieces, field_pieces, WritableField, All, spread, Small, Writable, Unended}

-- ---- tokens

-- bytes of a token that has been read
pieces_skip : (xs s : List ℕ) → pieces (length xs) (xs ++ s) ≡ pieces 0 s
unfolding pieces
pieces_skip [] s = refl
pieces_skip (x ∷ xs) s = pieces_skip xs s

-- a literal that can be read
pieces_literal : (b : ℕ) (bs : List ℕ) (len n : ℕ) → kind_of b ≡ 4 → literal_at (b ∷ bs) ≡ lexeme_of 2 len n
    → pieces 0 (b ∷ bs) ≡ with_piece (literal n) (pieces (len - 1) bs)
unfolding pieces
pieces_literal b bs len n k e = rw (k, e)

pieces_space : (s : List ℕ) → pieces 0 (32 ∷ s) ≡ pieces 0 s
unfolding pieces kind_of member
pieces_space s = refl

pieces_nothing : pieces 0 [] ≡ some []
unfolding pieces
pieces_nothing = refl

module _ (s : List ℕ) where
  pieces_bracket : pieces 0 (91 ∷ s) ≡ with_piece (sign 91) (pieces 0 s)
  unfolding pieces kind_of member
  pieces_bracket = refl

  pieces_unbracket : pieces 0 (93 ∷ s) ≡ with_piece (sign 93) (pieces 0 s)
  unfolding pieces kind_of member
  pieces_unbracket = refl

  pieces_equal : pieces 0 (61 ∷ s) ≡ with_piece (sign 61) (pieces 0 s)
  unfolding pieces kind_of member
  pieces_equal = refl

  pieces_comma : pieces 0 (44 ∷ s) ≡ with_piece (sign 44) (pieces 0 s)
  unfolding pieces kind_of member
  pieces_comma = refl

  pieces_minus : pieces 0 (45 ∷ s) ≡ with_piece (sign 45) (pieces 0 s)
  unfolding pieces kind_of member
  pieces_minus = refl

prefixed_append : (ps qs : List Piece) (o : Option (List Piece)) → prefixed (ps ++ qs) o ≡ prefixed ps (prefixed qs o)
prefixed_append [] qs o = refl
prefixed_append (p ∷ ps) qs o = ap (with_piece p) (prefixed_append ps qs o)

prefixed_some : (ps qs : List Piece) → prefixed ps (some qs) ≡ some (ps ++ qs)
prefixed_some [] qs = refl
prefixed_some (p ∷ ps) qs = ap (with_piece p) (prefixed_some ps qs)

literal_read : (xs : List ℕ) (n : ℕ) → Literal xs n → n ≤ 2147483647 → ReadAs xs (literal n ∷ [])
literal_read xs n h l = record { says = λ s a. go s a }
  where
    go : (s : List ℕ) → Apart s → pieces 0 (xs ++ s) ≡ with_piece (literal n) (pieces 0 s)
    go s a =
        ap (λ (ys : List ℕ). pieces 0 (ys ++ s)) h.is
        ∙ pieces_literal h.first (h.more ++ s) (suc (length h.more)) n (digit_kind h.first h.digit)
        (ap (λ (ys : List ℕ). literal_at (ys ++ s)) (sym h.is) ∙ read_literal xs n s h l a ∙ ap (λ (ys : List ℕ). lexeme_of 2 (length ys) n) h.is)
        ∙ ap (with_piece (literal n)) (ap (λ (k : ℕ). pieces k (h.more ++ s)) (let e : suc (length h.more) - 1 ≡ length h.more = omega arith in e) ∙ pieces_skip h.more s)

number_read : (n : ℕ) → n ≤ 2147483647 → ReadAs (print_number n) (literal n ∷ [])
number_read n l = literal_read (print_number n) n (print_literal 9 n (omega arith)) l

value_read : (z : ℤ) → nat_abs z ≤ 2147483647 → ReadAs (print_value z) (value_pieces z)
value_read (pos n) l = number_read n l
value_read (negsuc n) l = record { says = λ s a. pieces_minus _ ∙ ap (with_piece (sign 45)) ((number_read (suc n) l).says s a) }

field_read : (v : Option ℤ) → WritableField v → ReadAs (print_field v) (field_pieces v)
field_read none l = record { says = λ s a. refl }
field_read (some z) l = value_read z l

apart_comma : (s : List ℕ) → Apart (44 ∷ s)
unfolding starts kind_of member
apart_comma s = record { letter = refl; digit = refl; underscore = refl }

pub apart_unbracket : (s : List ℕ) → Apart (93 ∷ s)
unfolding starts kind_of member
apart_unbracket s = record { letter = refl; digit = refl; underscore = refl }

pub apart_nothing : Apart []
unfolding starts
apart_nothing = record { letter = refl; digit = refl; underscore = refl }

module _ {A : Type 0} (f : A → List ℕ) (g : A → List Piece) (P : A → Type 0) (reads : (a : A) → P a → ReadAs (f a) (g a)) where
  listed_says : (as' : List A) → All P as' → (s : List ℕ) → Apart s → pieces 0 (listed (map f as') ++ s) ≡ prefixed (spread (map g as')) (pieces 0 s)
  unfolding listed
  listed_says [] h s a = refl
  listed_says (x ∷ []) h s a = (reads x h.0).says s a
  listed_says (x ∷ y ∷ ys) h s a =
      ap (pieces 0) (append_assoc (f x) (44 ∷ 32 ∷ listed (map f (y ∷ ys))) s)
      ∙ (reads x h.0).says (44 ∷ 32 ∷ listed (map f (y ∷ ys)) ++ s) (apart_comma _)
      ∙ ap (prefixed (g x)) (pieces_comma _ ∙ ap (with_piece (sign 44)) (pieces_space _ ∙ listed_says (y ∷ ys) h.1 s a))
      ∙ sym (prefixed_append (g x) (sign 44 ∷ spread (map g (y ∷ ys))) (pieces 0 s))

-- ---- what the tokens say

values_read : (v : Option ℤ) (vs : List (Option ℤ)) → values (spread (map field_pieces (v ∷ vs))) ≡ some (v ∷ vs)
unfolding values
values_read none [] = refl
values_read (some (pos n)) [] = refl
values_read (some (negsuc n)) [] = refl
values_read none (y ∷ ys) = ap (before_values none) (values_read y ys)
values_read (some (pos n)) (y ∷ ys) = ap (before_values (some (pos n))) (values_read y ys)
values_read (some (negsuc n)) (y ∷ ys) = ap (before_values (some (negsuc n))) (values_read y ys)

indices_read : (i : ℕ) (is : List ℕ) (rest : List Piece) → indices (spread (map (λ n. literal n ∷ []) (i ∷ is)) ++ sign 93 ∷ rest) ≡ some (indexed (i ∷ is) rest)
unfolding indices
indices_read i [] rest = refl
indices_read i (j ∷ js) rest = ap (with_index i) (indices_read j js rest)

index_pieces : List ℕ → List Piece
index_pieces is = spread (map (λ n. literal n ∷ []) is)

line_pieces : (is : List ℕ) (vs : List (Option ℤ)) → All Small is → All WritableField vs
    → pieces 0 (cell_line is vs) ≡ some (sign 91 ∷ index_pieces is ++ sign 93 ∷ sign 61 ∷ spread (map field_pieces vs))
unfolding cell_line index_pieces
line_pieces is vs small writable =
    pieces_bracket _
    ∙ ap (with_piece (sign 91)) (listed_says print_number (λ n. literal n ∷ []) Small number_read is small (93 ∷ 32 ∷ 61 ∷ 32 ∷ listed (map print_field vs)) (apart_unbracket _)
    ∙ ap (prefixed (spread (map (λ n. literal n ∷ []) is))) (pieces_unbracket _
    ∙ ap (with_piece (sign 93)) (pieces_space _ ∙ pieces_equal _ ∙ ap (with_piece (sign 61)) (pieces_space _ ∙ values_there)))
    ∙ prefixed_some (spread (map (λ n. literal n ∷ []) is)) (sign 93 ∷ sign 61 ∷ spread (map field_pieces vs)))
  where
    values_there : pieces 0 (listed (map print_field vs)) ≡ some (spread (map field_pieces vs))
    values_there =
        ap (pieces 0) (sym (append-nil (listed (map print_field vs))))
        ∙ listed_says print_field field_pieces WritableField field_read vs writable [] apart_nothing
        ∙ ap (prefixed (spread (map field_pieces vs))) pieces_nothing
        ∙ prefixed_some (spread (map field_pieces vs)) [] ∙ ap some (append-nil (spread (map field_pieces vs)))

cell_said : (i : ℕ) (is : List ℕ) (z : Option ℤ) (zs : List (Option ℤ)) → said_by (sign 91 ∷ index_pieces (i ∷ is) ++ sign 93 ∷ sign 61 ∷ spread (map field_pieces (z ∷ zs))) ≡ cell (i ∷ is) (z ∷ zs)
unfolding said_by assigned index_pieces
cell_said i is z zs =
    ap cell_of_index (indices_read i is (sign 61 ∷ spread (map field_pieces (z ∷ zs)))) ∙ ap (cell_with (i ∷ is)) (values_read z zs)

time_said : (t : ℕ) → Small t → said_in (pieces 0 (print_number t)) ≡ time t
unfolding said_by pieces
time_said t l =
    ap said_in (ap (pieces 0) (sym (append-nil (print_number t))) ∙ (number_read t l).says [] apart_nothing)

pub all_append : {A : Type 0} (P : A → Type 0) (xs ys : List A) → All P xs → All P ys → All P (xs ++ ys)
all_append P [] ys p q = q
all_append P (x ∷ xs) ys p q = (p.0, all_append P xs ys p.1 q)

-- a text without line ends, and behind it one, are the first line
lines_first : (xs rest : List ℕ) → Unended xs → lines (xs ++ 10 ∷ rest) ≡ line xs true ∷ lines rest
unfolding lines kind_of member
lines_first [] rest p = refl
lines_first (x ∷ xs) rest p = rw (p.0, lines) (ap (in_front x) (lines_first xs rest p.1))

digits_unended : (xs : List ℕ) → PrintedDigits xs → Unended xs
digits_unended [] p = tt
digits_unended (x ∷ xs) p = (ap (λ (k : ℕ). eqb k 2) (digit_kind x p.0), digits_unended xs p.1)

number_unended : (n : ℕ) → Small n → Unended (print_number n)
number_unended n l =
    let h = print_literal 9 n (omega arith) in
    rw h.is (digits_unended (h.first ∷ h.more) (h.digit, h.digits))

value_unended : (z : ℤ) → Writable z → Unended (print_value z)
unfolding kind_of member
value_unended (pos n) l = number_unended n l
value_unended (negsuc n) l = (refl, number_unended (suc n) l)

field_unended : (v : Option ℤ) → WritableField v → Unended (print_field v)
field_unended none l = tt
field_unended (some z) l = value_unended z l

module _ {A : Type 0} (f : A → List ℕ) (P : A → Type 0) (unended : (a : A) → P a → Unended (f a)) where
  listed_unended : (as' : List A) → All P as' → Unended (listed (map f as'))
  unfolding listed kind_of member
  listed_unended [] h = tt
  listed_unended (x ∷ []) h = unended x h.0
  listed_unended (x ∷ y ∷ ys) h =
      all_append (λ b. eqb (kind_of b) 2 ≡ false) (f x) (44 ∷ 32 ∷ listed (map f (y ∷ ys))) (unended x h.0) (refl, (refl, listed_unended (y ∷ ys) h.1))

line_unended : (is : List ℕ) (vs : List (Option ℤ)) → All Small is → All WritableField vs → Unended (cell_line is vs)
unfolding cell_line kind_of member
line_unended is vs small writable = (
  refl,
  all_append (λ b. eqb (kind_of b) 2 ≡ false) (listed (map print_number is)) (93 ∷ 32 ∷ 61 ∷ 32 ∷ listed (map print_field vs))
      (listed_unended print_number Small number_unended is small)
      (refl, (refl, (refl, (refl, listed_unended print_field WritableField field_unended vs writable)))),
)

-- ---- what a text says whose first line was written

said_first : (xs rest : List ℕ) → Unended xs → said (xs ++ 10 ∷ rest) ≡ said_in (pieces 0 xs) ∷ said rest
unfolding said say
said_first xs rest p = ap (map say) (lines_first xs rest p)

-- a time's line
pub said_time : (t : ℕ) (rest : List ℕ) → Small t → said (print_number t ++ 10 ∷ rest) ≡ time t ∷ said rest
said_time t rest l = said_first (print_number t) rest (number_unended t l) ∙ ap (λ (x : Said). x ∷ said rest) (time_said t l)

-- a cell's line, of at least one dimension and one field
pub said_cell : (is : List ℕ) (vs : List (Option ℤ)) (rest : List ℕ) → 0 < length is → 0 < length vs → All Small is → All WritableField vs
    → said (cell_line is vs ++ 10 ∷ rest) ≡ cell is vs ∷ said rest
said_cell [] vs rest a b small writable = absurd (omega arith)
said_cell (i ∷ is) [] rest a b small writable = absurd (omega arith)
said_cell (i ∷ is) (z ∷ zs) rest a b small writable =
    said_first (cell_line (i ∷ is) (z ∷ zs)) rest (line_unended (i ∷ is) (z ∷ zs) small writable)
    ∙ ap (λ (x : Said). x ∷ said rest) (ap said_in (line_pieces (i ∷ is) (z ∷ zs) small writable) ∙ cell_said i is z zs)

pub said_nothing : said [] ≡ []
unfolding said lines
said_nothing = refl
