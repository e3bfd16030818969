-- The reasons of refusals and faults, each with the number of its reply.
use Rattle.std.specs.Prelude.{ℕ}
use Rattle.program.specs.declared.reply.Reason.{Reason}
use Rattle.program.specs.declared.reply.Reason.TheVariants.{Buffers, LongSource, NoToken, LargeLiteral, ManyTokens, OtherForm, NotAllowed, UnknownName, UsedName, WrongUse, BareRelation, DeepNesting, ManyNames, Shape, GridLength, Times, LargeIndex, FieldRange, OutOfRange, ZeroDivisor, ArrayIndex, AssignedValue, Dimensions, EmptyRange, LongLoop, ManyFields, ArraySize, ArrayValues, UnreadLine, OutsideGrid, ManyValues, ListedValue, TimeNotRising, TimeBeforeStart, TimePastEnd, ShortRoom, UnsetFlag, NoPlan, WrongPlan, RowCounts, NoZeroRow}

abbrev pub reason_number : Reason → ℕ
reason_number Buffers = 1
reason_number LongSource = 2
reason_number NoToken = 3
reason_number LargeLiteral = 4
reason_number ManyTokens = 5
reason_number OtherForm = 6
reason_number NotAllowed = 7
reason_number UnknownName = 8
reason_number UsedName = 9
reason_number WrongUse = 12
reason_number BareRelation = 13
reason_number DeepNesting = 14
reason_number ManyNames = 15
reason_number Shape = 20
reason_number GridLength = 21
reason_number Times = 22
reason_number LargeIndex = 23
reason_number FieldRange = 24
reason_number OutOfRange = 30
reason_number ZeroDivisor = 31
reason_number ArrayIndex = 32
reason_number AssignedValue = 33
reason_number Dimensions = 40
reason_number EmptyRange = 41
reason_number LongLoop = 42
reason_number ManyFields = 43
reason_number ArraySize = 44
reason_number ArrayValues = 45
reason_number UnreadLine = 50
reason_number OutsideGrid = 51
reason_number ManyValues = 52
reason_number ListedValue = 53
reason_number TimeNotRising = 54
reason_number TimeBeforeStart = 55
reason_number TimePastEnd = 56
reason_number ShortRoom = 57
reason_number UnsetFlag = 58
reason_number NoPlan = 59
reason_number WrongPlan = 60
reason_number RowCounts = 61
reason_number NoZeroRow = 62
