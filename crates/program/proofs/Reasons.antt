-- No reason has the number 0, which says that nothing refuses.
use Prim.Native.Nat.{ℕ}
use mathlib.Core.Path.{◌≡◌, refl}
use mathlib.Core.Bool.{false}
use lib.Dec.{eqb}
use Rattle.program.specs.Reason.{reason_number}
use Rattle.program.specs.declared.reply.Reason.{Reason}
use Rattle.program.specs.declared.reply.Reason.TheVariants.{Buffers, LongSource, NoToken, LargeLiteral, ManyTokens, OtherForm, NotAllowed, UnknownName, UsedName, WrongUse, BareRelation, DeepNesting, ManyNames, Shape, GridLength, Times, LargeIndex, FieldRange, OutOfRange, ZeroDivisor, ArrayIndex, AssignedValue, Dimensions, EmptyRange, LongLoop, ManyFields, ArraySize, ArrayValues, UnreadLine, OutsideGrid, ManyValues, ListedValue, TimeNotRising, TimeBeforeStart, TimePastEnd, ShortRoom, UnsetFlag, NoPlan, WrongPlan, RowCounts, NoZeroRow}

pub never_none : (r : Reason) → eqb (reason_number r) 0 ≡ false
never_none Buffers = refl
never_none LongSource = refl
never_none NoToken = refl
never_none LargeLiteral = refl
never_none ManyTokens = refl
never_none OtherForm = refl
never_none NotAllowed = refl
never_none UnknownName = refl
never_none UsedName = refl
never_none WrongUse = refl
never_none BareRelation = refl
never_none DeepNesting = refl
never_none ManyNames = refl
never_none Shape = refl
never_none GridLength = refl
never_none Times = refl
never_none LargeIndex = refl
never_none FieldRange = refl
never_none OutOfRange = refl
never_none ZeroDivisor = refl
never_none ArrayIndex = refl
never_none AssignedValue = refl
never_none Dimensions = refl
never_none EmptyRange = refl
never_none LongLoop = refl
never_none ManyFields = refl
never_none ArraySize = refl
never_none ArrayValues = refl
never_none UnreadLine = refl
never_none OutsideGrid = refl
never_none ManyValues = refl
never_none ListedValue = refl
never_none TimeNotRising = refl
never_none TimeBeforeStart = refl
never_none TimePastEnd = refl
never_none ShortRoom = refl
never_none UnsetFlag = refl
never_none NoPlan = refl
never_none WrongPlan = refl
never_none RowCounts = refl
never_none NoZeroRow = refl

-- the number of a rule that is broken for a reason
pub some_rule : (r : Reason) {n : ℕ} → reason_number r ≡ n → eqb n 0 ≡ false
some_rule r e = rw (← e) (never_none r)
