-- The round trip for every accepted source.
use Prim.Native.Nat.{ℕ, ◌≤◌}
use mathlib.Core.Path.{◌≡◌, refl, sym, subst}
use mathlib.Core.Bool.{Bool}
use mathlib.Core.List.{List}
use mathlib.Core.Option.{Option, some, none}
use lib.ListN.{length}
use Rattle.grammar.specs.Reader.{ok}
use Rattle.grammar.specs.Source.{Accepted, parse}
use Rattle.grammar.specs.Checking.{accepted, read_source}
use Rattle.read_links.proofs.Theorems.Accepted.{parsed}
use Rattle.move_meaning.specs.Profile.{profile_flag}
use Rattle.move_meaning.proofs.Theorems.InProfile.{accepted_parsed, flag_moves}
use Rattle.list_meaning.specs.Writing.{Wanted, writing_admission}
use Rattle.list_meaning.proofs.Theorems.RoundTrip.{Declared, Flagged, RoundTrip, round_trip}

-- an accepted source has at least one dimension and one field, and its range ends are literals with at most one sign
pub declared : (source : List ℕ) → length source ≤ 65535 → (a : Accepted) → parse source ≡ ok a → Declared a.program
declared source short a e =
    let p = parsed source short a e in
    subst (λ (z : Accepted). Declared z.program) (sym p.is)
    (record { dims = p.linked.some_dims; some_fields = p.linked.some_fields; ends = p.linked.ends })

-- its flag, if it has one, has the range 0..1
flagged : (fit : Bool) (source : List ℕ) (a : Accepted) → read_source fit source ≡ accepted a → (o : Option ℕ) → profile_flag source a ≡ o → Flagged a.program.fields o
flagged fit source a e none h = tt
flagged fit source a e (some f) h = (flag_moves fit source a e f h).flag

-- what the writer gives for any accepted source and any grids that pass its checks, read back, leads from the earlier grid to the later, where no
-- flag falls
pub round_trip_source : (fit : Bool) (source : List ℕ) (a : Accepted) → read_source fit source ≡ accepted a
    → (q : Wanted) → (writing_admission a.program q).number ≡ 0 → RoundTrip a.program (profile_flag source a) q
round_trip_source fit source a e q h =
    let read = accepted_parsed fit source a e in
    round_trip a.program (profile_flag source a) q (declared source read.0 a read.1) (flagged fit source a e (profile_flag source a) refl) h
