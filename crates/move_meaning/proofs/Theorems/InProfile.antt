-- A source in the profile is accepted, and its program moves once.
use Prim.Native.Nat.{ℕ, suc, ◌<◌, ◌≤◌}
use native.Mathlib.Omega.{arith}
use mathlib.Core.Path.{◌≡◌, refl, sym, ap, ◌∙◌, subst}
use mathlib.Core.Bool.{Bool, true, false, not, ◌&&◌}
use mathlib.Core.List.{List}
use mathlib.Core.Option.{Option, none, some}
use lib.ListN.{length, get_or, get_or-eq_default}
use lib.Dec.{ltb}
use lib.IntN.{pos}
use borrow.Author.Tests.{ltb-true, ltb-false, le-ltb}
use Rattle.value.specs.Limits.{most_bytes}
use Rattle.std.specs.Prelude.{if◌then◌else◌}
use Rattle.value.specs.Number.{eq_z}
use Rattle.value.proofs.Theorems.Laws.{never, and_both, eq_z_true}
use Rattle.token.specs.Scanning.{scan}
use Rattle.names.specs.declared.Entry.{Entry}
use Rattle.names.specs.Names.{name_kind, is, entry_at}
use Rattle.program.specs.Syntax.{Range, range, no_range}
use Rattle.grammar.specs.Reader.{Result, ok, fail, ◌>>=◌, position}
use Rattle.grammar.specs.Source.{Accepted, parse}
use Rattle.grammar.specs.Checking.{SourceRead, turned_away, refused, accepted, source_read, read_source}
use Rattle.cell_meaning.specs.Promises.Stands.{Stands}
use Rattle.cell_meaning.specs.Links.{word_in, table_of}
use Rattle.read_links.proofs.Theorems.Accepted.{Parsed, parsed, holds}
use Rattle.move_meaning.specs.Profile.{is_flag, flag_of, flag_in, moved_slot, flag_field, moves_once, read_head, statements_at, tokens_of, if_moves, profile_flag, Answer, rule_missed, missed, answer_of, one_move}
use Rattle.move_meaning.proofs.Theorems.Moving.{OneMove}
use Rattle.move_meaning.proofs.Theorems.Exits.{enclosed}
use Rattle.move_meaning.proofs.Theorems.Found.{moves}

rule_differs : {X : Type 0} {n : ℕ} {a b c d : ℕ} → missed (suc n) a b ≡ missed 0 c d → X
rule_differs {n = n} q = absurd (let z : ◌≡◌ {A = ℕ} (suc n) 0 = ap (λ (x : Answer). x.rule) q in omega arith)

-- ---- rule 2

pub record Flag (fields : List Range) (f : ℕ) : Type 0 where
  pub has : f < length fields
  pub range_is : get_or fields f no_range ≡ range (pos 0) (pos 1)

pub flag_range : (fields : List Range) (f : ℕ) → is_flag (get_or fields f no_range) ≡ true → Flag fields f
flag_range fields f h = record { has = below (ltb f (length fields)) refl; range_is = λ i. record { low = low i; high = high i } }
  where
    both : (eq_z (get_or fields f no_range).low (pos 0) ≡ true) × (eq_z (get_or fields f no_range).high (pos 1) ≡ true)
    both = and_both (eq_z (get_or fields f no_range).low (pos 0)) (eq_z (get_or fields f no_range).high (pos 1)) h

    low : (get_or fields f no_range).low ≡ pos 0
    low = eq_z_true (get_or fields f no_range).low (pos 0) both.0

    high : (get_or fields f no_range).high ≡ pos 1
    high = eq_z_true (get_or fields f no_range).high (pos 1) both.1

    below : (t : Bool) → ltb f (length fields) ≡ t → f < length fields
    below true e = ltb-true f (length fields) e
    below false e = never (ap is_flag (sym (get_or-eq_default fields no_range {n = f} (ltb-false f (length fields) e))) ∙ h)

flag_entry : (e : Entry) (fields : List Range) (f : ℕ) → flag_of e fields ≡ some f → Flag fields f
flag_entry e fields f h = go (is e name_kind.field && is_flag (get_or fields e.word no_range)) refl h
  where
    go : (t : Bool) → (is e name_kind.field && is_flag (get_or fields e.word no_range)) ≡ t → (if t then some e.word else none) ≡ some f → Flag fields f
    go true q h =
        let same : e.word ≡ f = cc in
        subst (Flag fields) same (flag_range fields e.word (and_both (is e name_kind.field) (is_flag (get_or fields e.word no_range)) q).1)
    go false q h = absurd (let z : ◌≡◌ {A = ℕ} 0 1 = cc in omega arith)

-- the flag is a field of the program, of range 0..1
pub flag_found : (source : List ℕ) (a : Accepted) (f : ℕ) → flag_field source a ≡ some f → Flag a.program.fields f
unfolding flag_field
flag_found source a f h = go (moved_slot source a.names) h
  where
    go : (o : Option ℕ) → flag_in o a.names a.program.fields ≡ some f → Flag a.program.fields f
    go none h = absurd (let z : ◌≡◌ {A = ℕ} 0 1 = cc in omega arith)
    go (some slot) h = flag_entry (entry_at a.names slot) a.program.fields f h

-- ---- rule 3

-- the first statement stands where reading comes to it
pub head_at : (source : List ℕ) (a : Accepted) (p : Parsed source a) → statements_at source ≡ p.trace.s₂.at
unfolding read_head ◌>>=◌ position
head_at source a p = rw (p.trace.constants, p.trace.cell) refl

no_kind : (words : List ℕ) (n : ℕ) → word_in words n 0 n ≡ 0
unfolding word_in
no_kind words n = rw (le-ltb n n (omega arith)) refl

-- ---- all

-- a source in the profile: it is accepted, and its program moves once
pub record InProfile (fit : Bool) (source : List ℕ) : Type 0 where
  pub read : Accepted
  pub is_read : read_source fit source ≡ accepted read
  pub field : ℕ
  pub is_flag : profile_flag source read ≡ some field
  pub tree : OneMove field read.program

-- an accepted source is of allowed length, and is read
pub accepted_parsed : (fit : Bool) (source : List ℕ) (a : Accepted) → read_source fit source ≡ accepted a → (length source ≤ 65535) × (parse source ≡ ok a)
unfolding read_source
accepted_parsed fit source a e = go (not fit) (ltb most_bytes (length source)) refl (parse source) refl e
  where
    go : (t u : Bool) → ltb most_bytes (length source) ≡ u → (r : Result Accepted) → parse source ≡ r
        → (if t then turned_away 1 0 else if u then turned_away 2 most_bytes else source_read r) ≡ accepted a → (length source ≤ 65535) × (parse source ≡ ok a)
    go true u q r s e = absurd (let z : ◌≡◌ {A = ℕ} 0 1 = cc in omega arith)
    go false true q r s e = absurd (let z : ◌≡◌ {A = ℕ} 0 1 = cc in omega arith)
    go false false q (ok b) s e = let same : b ≡ a = cc in (ltb-false most_bytes (length source) q, s ∙ ap (λ (x : Accepted). ok x) same)
    go false false q (fail n place) s e = absurd (let z : ◌≡◌ {A = ℕ} 0 1 = cc in omega arith)

-- what it is for the flag to have a field
record Kept (source : List ℕ) (a : Accepted) (f : ℕ) : Type 0 where
  pub field : flag_field source a ≡ some f
  pub once : moves_once f (tokens_of source a) (statements_at source) ≡ true

kept : (source : List ℕ) (a : Accepted) (f : ℕ) → profile_flag source a ≡ some f → Kept source a f
unfolding profile_flag
kept source a f h = go (flag_field source a) refl h
  where
    go : (o : Option ℕ) → flag_field source a ≡ o → if_moves source a o ≡ some f → Kept source a f
    go none e h = absurd (let z : ◌≡◌ {A = ℕ} 0 1 = cc in omega arith)
    go (some g) e h = test (moves_once g (tokens_of source a) (statements_at source)) refl h
      where
        test : (t : Bool) → moves_once g (tokens_of source a) (statements_at source) ≡ t → (if t then some g else none) ≡ some f → Kept source a f
        test true m q =
            let same : g ≡ f = cc in
            record { field = e ∙ ap (λ (x : ℕ). some x) same; once = subst (λ (x : ℕ). moves_once x (tokens_of source a) (statements_at source) ≡ true) same m }
        test false m q = absurd (let z : ◌≡◌ {A = ℕ} 0 1 = cc in omega arith)

-- the flag of an accepted source: its program moves once
pub flag_moves : (fit : Bool) (source : List ℕ) (a : Accepted) → read_source fit source ≡ accepted a → (f : ℕ) → profile_flag source a ≡ some f → OneMove f a.program
flag_moves fit source a e f h =
    let k = kept source a f h in
    let both = accepted_parsed fit source a e in
    let p = parsed source both.0 a both.1 in
    let g = flag_found source a f k.field in
    record {
      has = g.has;
      flag = g.range_is;
      body =
          moves f (tokens_of source a) (no_kind a.words (length (scan source).tokens)) a.program.body (statements_at source)
          (subst (Stands (table_of a.words (length (scan source).tokens) a.program.dims) 0 a.program.body) (sym (head_at source a p)) (holds source a p).body) k.once;
      enclosed = enclosed source both.0 a both.1;
    }

-- the answer for it is yes
pub profile_in : (fit : Bool) (source : List ℕ) (a : Accepted) → read_source fit source ≡ accepted a → (f : ℕ) → profile_flag source a ≡ some f → one_move fit source ≡ missed 0 0 0
unfolding one_move
profile_in fit source a e f h = rw (e, h, (kept source a f h).field) refl

-- and where the answer is yes, the source has a flag
pub in_profile : (fit : Bool) (source : List ℕ) → one_move fit source ≡ missed 0 0 0 → InProfile fit source
unfolding one_move
in_profile fit source h = go (read_source fit source) refl h
  where
    go : (o : SourceRead) → read_source fit source ≡ o → answer_of source o ≡ missed 0 0 0 → InProfile fit source
    go (turned_away n place) e q = rule_differs q
    go (refused n place) e q = rule_differs q
    go (accepted a) e q = by_flag (flag_field source a) (profile_flag source a) refl q
      where
        by_flag : (x y : Option ℕ) → profile_flag source a ≡ y → missed (rule_missed x y) 0 0 ≡ missed 0 0 0 → InProfile fit source
        by_flag none y s q = rule_differs q
        by_flag (some g) none s q = rule_differs q
        by_flag (some g) (some f) s q = record { read = a; is_read = e; field = f; is_flag = s; tree = flag_moves fit source a e f s }
