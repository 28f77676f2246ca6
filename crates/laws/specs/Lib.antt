-- Theorems about the rules. What is proved of the code cites these; nothing here must be believed.
-- words of lists and tests
pub mod RefusalNumbers
pub mod Cases
pub mod Walks
pub mod All
pub mod Keeping
pub mod Adding
pub mod Finding
pub mod Ways
-- records and their numbers
pub mod Order
pub mod Numbers
-- nets
pub mod NetLaws
pub mod NetList
pub mod Listed
-- parts taken and charged
pub mod Taking
pub mod Rows
pub mod Charging
pub mod Meetings
-- the settlement run: as the code walks it, and that this is the rule's
pub mod Walk
pub mod Merging
pub mod Spare
pub mod Giving
pub mod ByNumber
pub mod SidesOf
pub mod RowMeeting
pub mod Searching
pub mod WalkIsRun
-- what a run moves: all that is deliverable, refusal 13 never, nothing that is not held, each side a record's of its own account
pub mod Deliveries
pub mod Backed
pub mod OwnSides
pub mod SoundRun
-- an accepted call keeps the book sound: its clauses, what was passed, its lengths, its list, its holdings; so does creation
pub mod SoundParts
pub mod Accepted
pub mod Shaped
pub mod Tables
pub mod KeptLists
pub mod Totals
pub mod KeptHoldings
pub mod Empty
pub mod Blanks
-- the money at stake, account by account
pub mod Stakes
-- the day roll: records lessened, who faces whom, one newly due record against the older ones, all of them
pub mod Lessened
pub mod Facing
pub mod Against
pub mod Offsets
-- an accepted roll keeps the book sound: records by due day, how clauses are shown, what remains, offsetting, its money, nets of listed
-- securities, the book before offsetting, the roll; and no money is lost
pub mod DueDays
pub mod Showing
pub mod Remaining
pub mod OffsetKept
pub mod StakeKept
pub mod NetListed
pub mod Rolling
pub mod RollKept
pub mod RollWorth
pub mod QuietRoll
-- what a settlement run keeps: shares, holdings, money, order; and that it leaves a sound book
pub mod MovedTotals
pub mod RunKeeps
pub mod RunLeaves
pub mod RunShares
pub mod RunHoldings
pub mod RunClaims
pub mod RunMoney
pub mod RunOthers
pub mod RunRecords
pub mod RunSigns
pub mod RunSound
-- what is stored fits its bytes; bytes that are a sound book, and a call on them
pub mod Fitting
pub mod SoundBytes
-- the call file and the sheet
pub mod Files
pub mod Decimals
-- answers: the numbers and values of those that are enums; 0 or one of the call's own numbers; a refused call alters nothing
pub mod EnumAnswers
pub mod OwnNumbers
pub mod Refused
