-- The call that returns the border rows, by the ways through its code.
use Prim.Native.Nat.{ℕ}
use mathlib.Core.Path.{◌≡◌, refl, sym, ap, ◌∙◌, subst}
use mathlib.Core.Bool.{Bool, true, false, not, ◌&&◌}
use mathlib.Core.List.{List}
use lib.ListN.{length}
use lib.Dec.{eqb}
use borrow.Author.Tests.{ne_eqb, not-true, not-false}
use Rattle.std.specs.Prelude.{Option, None, Some, Result, Ok, Err, if◌then◌else◌}
use Rattle.automaton.specs.Shape.{Bound}
use Rattle.token.specs.Lexeme.{is_built_in}
use Rattle.grammar.specs.Checking.{rooms_fit, read_source, words_after}
use Rattle.grammar.specs.Promises.Flat.{names_after}
use Rattle.program.specs.Refusal.{Refusal, refusal}
use Rattle.run_calls.specs.Calls.{flat_names, SourceLent, source_fits}
use Rattle.band_meaning.specs.OnSizes.{on_sizes, by_grid}
use Rattle.band_meaning.specs.BorderCall.{Borders, no_borders, borders, borders_source, borders_left}
use Rattle.band_planner.specs.declared.opening.RowsOpened.{RowsOpened}
use Rattle.band_planner.specs.declared.borders.Border.{Border}
use Rattle.band_planner.specs.Promises.Borders.{border_of}
use Rattle.band_planner.specs.Promises.Opening.{far_told, RowsOpen, OpensRows}
use Rattle.band_planner.specs.Promises.BorderCall.{borders_in, BordersSource, BordersLeaves}
use Rattle.band_planner.proofs.OpeningLaws.{answered, numbered, by_reason}

-- ---- a source

module _ {fit : Bool} {source ws ns sizes : List ℕ} {o : Result RowsOpened Refusal} {ws' ns' : List ℕ} (x : OpensRows fit source ws ns sizes o ws' ns') where
  -- the source or the sizes are refused
  pub borders_closed : {e : Refusal} → o ≡ Err e → {r : Result Border Refusal} → r ≡ Err e → BordersSource fit source sizes ws ns r ws' ns'
  unfolding borders_source
  borders_closed {e} z q =
      record { reply = ap borders_in q ∙ sym (ap (by_grid no_borders (λ p. borders p sizes)) (x.closed e z)); refuses = numbered q (x.refuses e z); words_are = x.words; names_are = x.names }

  module _ {rows : RowsOpened} (z : o ≡ Ok rows) where
    open_is : RowsOpen fit source ws' sizes rows
    open_is = x.opened rows z

    -- the reply, by whether an index is too far
    abbrev replied : Bool → Refusal → Bound → Borders
    replied near far edge = if near then record { number = 0; place = 0; before = edge.back; behind = edge.ahead } else no_borders far.number far.place

    reply_is : {r : Result Border Refusal} {t : Bool} → eqb (far_told rows.far).number 0 ≡ t → borders_in r ≡ replied t (far_told rows.far) (border_of rows.border)
        → ((e : Refusal) → r ≡ Err e → e.number ≡ 0 → ⊥) → BordersSource fit source sizes ws ns r ws' ns'
    unfolding borders_source borders
    reply_is e q n =
        record {
          reply = q ∙ ap (λ (t : Bool). replied t (far_told rows.far) (border_of rows.border)) (sym e)
              ∙ (λ i. replied (eqb (open_is.far i).number 0) (open_is.far i) (open_is.borders i)) ∙ sym (ap (by_grid no_borders (λ p. borders p sizes)) open_is.on);
          refuses = n;
          words_are = x.words;
          names_are = x.names;
        }

    -- an index is too far, or none
    pub borders_far : {e : Refusal} → rows.far ≡ Some e → BordersSource fit source sizes ws ns (Err e) ws' ns'
    borders_far {e} f = reply_is (ap (λ (g : Option Refusal). eqb (far_told g).number 0) f ∙ ne_eqb e.number 0 (open_is.refuses e f)) (ap (λ (g : Option Refusal). borders_in (Err (far_told g))) (sym f)) (numbered refl (open_is.refuses e f))

    -- there is a border: any answer that tells it, and is no refusal without a number
    pub borders_answered : rows.far ≡ None → {r : Result Border Refusal} → borders_in r ≡ borders_in (Ok rows.border) → ((e : Refusal) → r ≡ Err e → e.number ≡ 0 → ⊥)
        → BordersSource fit source sizes ws ns r ws' ns'
    borders_answered f told n = reply_is (ap (λ (g : Option Refusal). eqb (far_told g).number 0) f) told n

    -- the answer that the call gives
    pub borders_found : rows.far ≡ None → BordersSource fit source sizes ws ns (Ok rows.border) ws' ns'
    borders_found f = borders_answered f refl answered

-- ---- what is lent

module _ (l : SourceLent ℕ) (sizes : List ℕ) {t : Bool} (is : t ≡ is_built_in l.list) where
  -- another list than the built-in one: nothing is read, and nothing changes
  pub borders_unlisted : not t ≡ true → {e : Refusal} → e ≡ refusal 1 0 → BordersLeaves flat_names l sizes (Err e) l.words l.names
  unfolding borders_left borders_source on_sizes words_after read_source
  borders_unlisted n q =
      let e : source_fits flat_names l ≡ false = ap (λ (u : Bool). u && rooms_fit (length l.words) (length l.names)) (sym is ∙ not-true t n) in
      record { is = (λ i. record { answer = borders_in (Err (q i)); words = l.words; names = l.names }) ∙ rw e; refuses = by_reason q }

  pub borders_read : not t ≡ false → {r : Result Border Refusal} {words names : List ℕ}
      → BordersSource (rooms_fit (length l.words) (length l.names)) l.source sizes l.words l.names r words names → BordersLeaves flat_names l sizes r words names
  unfolding borders_left names_after
  borders_read n {r} {words} {names} x =
      let e : rooms_fit (length l.words) (length l.names) ≡ source_fits flat_names l = ap (λ (u : Bool). u && rooms_fit (length l.words) (length l.names)) (sym (sym is ∙ not-false t n)) in
      let y = subst (λ (fit : Bool). BordersSource fit l.source sizes l.words l.names r words names) e x in
      record { is = λ i. record { answer = y.reply i; words = y.words_are i; names = y.names_are i }; refuses = y.refuses }
