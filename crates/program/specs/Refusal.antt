-- A refusal: the number and the place of a reply.
use Rattle.std.specs.Prelude.{ℕ}
use Rattle.program.specs.declared.reply.Refusal as reply

-- number 0: none
abbrev pub Refusal : Type 0
Refusal = reply.Refusal

abbrev pub refusal : ℕ → ℕ → Refusal
refusal number place = record { number = number; place = place }

abbrev pub no_refusal : Refusal
no_refusal = refusal 0 0
