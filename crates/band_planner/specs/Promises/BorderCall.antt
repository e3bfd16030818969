-- What the call that returns the border rows promises.
use Rattle.std.specs.Prelude.{◌≡◌, Bool, List, ℕ, Result, Ok, Err}
use Rattle.grammar.specs.Checking.{words_after}
use Rattle.grammar.specs.Promises.Flat.{names_after}
use Rattle.run_calls.specs.Calls.{NameForm, SourceLent}
use Rattle.program.specs.Refusal.{Refusal}
use Rattle.band_meaning.specs.BorderCall.{Borders, no_borders, borders_source, borders_left}
use Rattle.band_planner.specs.declared.borders.Border.{Border}

-- the numbers that a result gives
abbrev pub borders_in : Result Border Refusal → Borders
borders_in (Ok b) = record { number = 0; place = 0; before = b.before; behind = b.behind }
borders_in (Err e) = no_borders e.number e.place

-- `borders_listed`: the reply to a source, 0 for `Ok` alone, and what is left, whether or not the rooms fit
pub record BordersSource (fit : Bool) (source sizes words names : List ℕ) (r : Result Border Refusal) (words' names' : List ℕ) : Type 0 where
  pub reply : borders_in r ≡ borders_source fit source sizes
  pub refuses : (e : Refusal) → r ≡ Err e → e.number ≡ 0 → ⊥
  pub words_are : words' ≡ words_after fit source words
  pub names_are : names' ≡ names_after fit source names

-- `borders_of`: the reply, 0 for `Ok` alone, and the memory that it leaves, are those of the definition
pub record BordersLeaves {N : Type 0} (form : NameForm N) (l : SourceLent N) (sizes : List ℕ) (r : Result Border Refusal) (words : List ℕ) (names : List N) : Type 0 where
  pub is : record { answer = borders_in r; words = words; names = names } ≡ borders_left form l sizes
  pub refuses : (e : Refusal) → r ≡ Err e → e.number ≡ 0 → ⊥
