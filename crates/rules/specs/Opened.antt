-- One name that opens all definitions of the rules, for a theorem by computation: `unfolding everything`; and one that opens all but those over a
-- book's bytes: `unfolding values`. Written by tests/opened.py: the list of all `unfoldable` names.
use Rattle.rules.specs.Words
use Rattle.rules.specs.Bounds
use Rattle.rules.specs.Book
use Rattle.rules.specs.Layout
use Rattle.rules.specs.Trades
use Rattle.rules.specs.Sound
use Rattle.rules.specs.Nets
use Rattle.rules.specs.Parts
use Rattle.rules.specs.Roll
use Rattle.rules.specs.Run
use Rattle.rules.specs.Prices
use Rattle.rules.specs.Marks
use Rattle.rules.specs.Calls
use Rattle.rules.specs.Records
use Rattle.rules.specs.CallFile
use Rattle.rules.specs.Sheet
use Rattle.rules.specs.Written
use Rattle.integers.specs.Bits
use Rattle.fields.specs.Field
use Rattle.fields.specs.Codec
use Rattle.units_rounded.specs.Part
use Rattle.units_rounded.specs.Conversion

unfoldable pub everything : Unit {0}
unfolding Rattle.rules.specs.Words.all Rattle.rules.specs.Words.any Rattle.rules.specs.Words.keep Rattle.rules.specs.Words.total Rattle.rules.specs.Words.each Rattle.rules.specs.Words.from Rattle.rules.specs.Words.first Rattle.rules.specs.Words.text Rattle.rules.specs.Bounds.every_account Rattle.rules.specs.Bounds.every_security Rattle.rules.specs.Bounds.every_currency Rattle.rules.specs.Book.is_zero Rattle.rules.specs.Book.number_of Rattle.rules.specs.Book.due_of Rattle.rules.specs.Book.account_of Rattle.rules.specs.Book.security_of Rattle.rules.specs.Book.open_of Rattle.rules.specs.Book.list_of Rattle.rules.specs.Book.with_open Rattle.rules.specs.Book.with_list Rattle.rules.specs.Book.with_holdings Rattle.rules.specs.Book.with_charges Rattle.rules.specs.Book.with_day Rattle.rules.specs.Book.currency_of Rattle.rules.specs.Book.unlisted Rattle.rules.specs.Book.holding_at Rattle.rules.specs.Book.held_by Rattle.rules.specs.Book.charge_at Rattle.rules.specs.Book.charge_of Rattle.rules.specs.Book.charged Rattle.rules.specs.Book.empty_book Rattle.rules.specs.Layout.book_of Rattle.rules.specs.Layout.bytes_of Rattle.rules.specs.Trades.amount_of Rattle.rules.specs.Trades.is_excluded Rattle.rules.specs.Trades.used Rattle.rules.specs.Trades.stands Rattle.rules.specs.Trades.entered Rattle.rules.specs.Trades.replaced Rattle.rules.specs.Trades.amended Rattle.rules.specs.Trades.excluded Rattle.rules.specs.Trades.no_account Rattle.rules.specs.Trades.bad_accounts Rattle.rules.specs.Trades.no_security Rattle.rules.specs.Trades.bad_security Rattle.rules.specs.Trades.bad_quantity Rattle.rules.specs.Trades.bad_price Rattle.rules.specs.Trades.same_account Rattle.rules.specs.Sound.day_fits Rattle.rules.specs.Sound.is_code Rattle.rules.specs.Sound.codes_fit Rattle.rules.specs.Sound.ascends_from Rattle.rules.specs.Sound.ascends Rattle.rules.specs.Sound.is_blank Rattle.rules.specs.Sound.records_fit Rattle.rules.specs.Sound.is_position Rattle.rules.specs.Sound.sizes_fit Rattle.rules.specs.Sound.due_fits Rattle.rules.specs.Sound.is_due Rattle.rules.specs.Sound.due_nonzero Rattle.rules.specs.Sound.same_pair Rattle.rules.specs.Sound.agree Rattle.rules.specs.Sound.one_sign Rattle.rules.specs.Sound.balanced Rattle.rules.specs.Sound.due_balanced Rattle.rules.specs.Sound.by_account Rattle.rules.specs.Sound.added Rattle.rules.specs.Sound.totals Rattle.rules.specs.Sound.totals_held Rattle.rules.specs.Sound.total_held Rattle.rules.specs.Sound.holdings_fit Rattle.rules.specs.Sound.holds_listed Rattle.rules.specs.Sound.unlisted_empty Rattle.rules.specs.Sound.records_of Rattle.rules.specs.Sound.open_money Rattle.rules.specs.Sound.money_fits_of Rattle.rules.specs.Sound.money_fits_from Rattle.rules.specs.Sound.money_fits Rattle.rules.specs.Sound.distinct Rattle.rules.specs.Sound.valid_trade Rattle.rules.specs.Sound.zero_fields Rattle.rules.specs.Sound.trades_fit Rattle.rules.specs.Sound.sound Rattle.rules.specs.Sound.not_sound Rattle.rules.specs.Nets.bought Rattle.rules.specs.Nets.sold Rattle.rules.specs.Nets.net Rattle.rules.specs.Nets.net_of Rattle.rules.specs.Nets.trades_of Rattle.rules.specs.Nets.nets Rattle.rules.specs.Parts.part_money Rattle.rules.specs.Parts.without Rattle.rules.specs.Parts.charged_to Rattle.rules.specs.Parts.charged_both Rattle.rules.specs.Roll.opposite Rattle.rules.specs.Roll.faces Rattle.rules.specs.Roll.smaller Rattle.rules.specs.Roll.in_front Rattle.rules.specs.Roll.against Rattle.rules.specs.Roll.offset_one Rattle.rules.specs.Roll.offset_all Rattle.rules.specs.Roll.remains Rattle.rules.specs.Roll.offset Rattle.rules.specs.Roll.uncharged Rattle.rules.specs.Roll.netted Rattle.rules.specs.Roll.emptied Rattle.rules.specs.Roll.next_day Rattle.rules.specs.Roll.rolled Rattle.rules.specs.Roll.open_plus_nets Rattle.rules.specs.Run.short_of Rattle.rules.specs.Run.long_of Rattle.rules.specs.Run.due_in Rattle.rules.specs.Run.givers_of Rattle.rules.specs.Run.givers Rattle.rules.specs.Run.receivers Rattle.rules.specs.Run.deliverable Rattle.rules.specs.Run.wanted Rattle.rules.specs.Run.leaving Rattle.rules.specs.Run.filled Rattle.rules.specs.Run.meetings_of Rattle.rules.specs.Run.meetings Rattle.rules.specs.Run.shares_moved Rattle.rules.specs.Run.taken_from Rattle.rules.specs.Run.charged_for Rattle.rules.specs.Run.moved Rattle.rules.specs.Run.met Rattle.rules.specs.Run.taken Rattle.rules.specs.Run.settled Rattle.rules.specs.Prices.entry_of Rattle.rules.specs.Prices.wrong_table Rattle.rules.specs.Prices.entry_above Rattle.rules.specs.Prices.from_closing Rattle.rules.specs.Prices.table_used Rattle.rules.specs.Prices.price_of Rattle.rules.specs.Prices.no_price Rattle.rules.specs.Prices.price_tests Rattle.rules.specs.Prices.price_answer Rattle.rules.specs.Prices.price_part Rattle.rules.specs.Prices.entry_spot Rattle.rules.specs.Prices.price_spot Rattle.rules.specs.Marks.rate_of Rattle.rules.specs.Marks.haircut_of Rattle.rules.specs.Marks.marked_of Rattle.rules.specs.Marks.mark_of Rattle.rules.specs.Marks.mark_at Rattle.rules.specs.Marks.lacks_price Rattle.rules.specs.Marks.sum_of Rattle.rules.specs.Marks.favourable_total Rattle.rules.specs.Marks.unfavourable_total Rattle.rules.specs.Marks.due_and_sums Rattle.rules.specs.Marks.wrong_terms Rattle.rules.specs.Marks.bad_rates Rattle.rules.specs.Marks.passes_limit Rattle.rules.specs.Marks.marks_tests Rattle.rules.specs.Marks.marks_number Rattle.rules.specs.Marks.marks Rattle.rules.specs.Marks.marks_figures Rattle.rules.specs.Marks.number_of_marks Rattle.rules.specs.Marks.figures_of_marks Rattle.rules.specs.Calls.bad_deposit Rattle.rules.specs.Calls.field_tests Rattle.rules.specs.Calls.holding_tests Rattle.rules.specs.Calls.tests Rattle.rules.specs.Calls.after Rattle.rules.specs.Calls.figure Rattle.rules.specs.Calls.answer_sound Rattle.rules.specs.Calls.answer Rattle.rules.specs.Calls.answer_bytes Rattle.rules.specs.Calls.after_bytes Rattle.rules.specs.Calls.figure_bytes Rattle.rules.specs.Calls.run_answer Rattle.rules.specs.Calls.number_of_run Rattle.rules.specs.Calls.figure_of_run Rattle.rules.specs.Calls.create_tests Rattle.rules.specs.Calls.create_answer Rattle.rules.specs.Calls.create_bytes Rattle.rules.specs.Records.length_of Rattle.rules.specs.Records.trade_in Rattle.rules.specs.Records.forms_of Rattle.rules.specs.Records.read_as Rattle.rules.specs.Records.is_cut Rattle.rules.specs.Records.front_of Rattle.rules.specs.Records.in_place Rattle.rules.specs.Records.record_at Rattle.rules.specs.Records.other_version Rattle.rules.specs.Records.too_long Rattle.rules.specs.Records.file_refused Rattle.rules.specs.Records.past_end Rattle.rules.specs.Records.answer_to Rattle.rules.specs.Records.record_answer Rattle.rules.specs.Records.bytes_after Rattle.rules.specs.Records.applies Rattle.rules.specs.Records.record_bytes Rattle.rules.specs.Records.number_of_record Rattle.rules.specs.Records.figure_of_record Rattle.rules.specs.Records.next_of_record Rattle.rules.specs.Records.number_at Rattle.rules.specs.Records.record_number Rattle.rules.specs.Records.figure_at Rattle.rules.specs.Records.record_figure Rattle.rules.specs.Records.next_at Rattle.rules.specs.Records.record_next Rattle.rules.specs.CallFile.is_unreadable Rattle.rules.specs.CallFile.records_from Rattle.rules.specs.CallFile.behind_version Rattle.rules.specs.CallFile.records_in Rattle.rules.specs.CallFile.before Rattle.rules.specs.CallFile.contents Rattle.rules.specs.CallFile.contents_of Rattle.rules.specs.CallFile.answered Rattle.rules.specs.CallFile.left Rattle.rules.specs.CallFile.played Rattle.rules.specs.CallFile.played_from Rattle.rules.specs.CallFile.nineteen Rattle.rules.specs.CallFile.file_of Rattle.rules.specs.CallFile.answers_of Rattle.rules.specs.CallFile.whole_refused Rattle.rules.specs.CallFile.whole_answer Rattle.rules.specs.CallFile.whole_size Rattle.rules.specs.CallFile.whole_answers Rattle.rules.specs.CallFile.bytes_left Rattle.rules.specs.CallFile.whole_bytes Rattle.rules.specs.Sheet.digits_by Rattle.rules.specs.Sheet.decimal Rattle.rules.specs.Sheet.signed_decimal Rattle.rules.specs.Sheet.spaced Rattle.rules.specs.Sheet.text_of Rattle.rules.specs.Sheet.answer_line Rattle.rules.specs.Sheet.answer_lines Rattle.rules.specs.Sheet.open_line Rattle.rules.specs.Sheet.charge_line Rattle.rules.specs.Sheet.charge_lines Rattle.rules.specs.Sheet.book_lines Rattle.rules.specs.Sheet.ended Rattle.rules.specs.Sheet.lines_of Rattle.rules.specs.Sheet.refused_sheet Rattle.rules.specs.Sheet.sheet_of Rattle.rules.specs.Sheet.sheet_refused Rattle.rules.specs.Sheet.sheet_answer Rattle.rules.specs.Sheet.sheet_size Rattle.rules.specs.Sheet.sheet_bytes Rattle.rules.specs.Sheet.sheet_book Rattle.rules.specs.Sheet.line_answer Rattle.rules.specs.Sheet.line_part Rattle.rules.specs.Sheet.line_spot Rattle.rules.specs.Sheet.line_bytes Rattle.rules.specs.Sheet.line_tally Rattle.rules.specs.Written.hex_with Rattle.rules.specs.Written.hex Rattle.rules.specs.Written.created Rattle.rules.specs.Written.at Rattle.rules.specs.Written.deal Rattle.rules.specs.Written.book_with Rattle.rules.specs.Written.next Rattle.rules.specs.Written.answers Rattle.rules.specs.Written.through Rattle.rules.specs.Written.shown Rattle.integers.specs.Bits.bits_of Rattle.integers.specs.Bits.value_of Rattle.fields.specs.Field.field Rattle.fields.specs.Field.digits Rattle.fields.specs.Field.stored Rattle.fields.specs.Codec.read_rows Rattle.fields.specs.Codec.write_rows Rattle.units_rounded.specs.Part.part_of Rattle.units_rounded.specs.Conversion.favourable_of Rattle.units_rounded.specs.Conversion.unfavourable_of
everything = tt

-- all but the book in bytes
unfoldable pub values : Unit {0}
unfolding Rattle.rules.specs.Words.all Rattle.rules.specs.Words.any Rattle.rules.specs.Words.keep Rattle.rules.specs.Words.total Rattle.rules.specs.Words.each Rattle.rules.specs.Words.from Rattle.rules.specs.Words.first Rattle.rules.specs.Words.text Rattle.rules.specs.Bounds.every_account Rattle.rules.specs.Bounds.every_security Rattle.rules.specs.Bounds.every_currency Rattle.rules.specs.Book.is_zero Rattle.rules.specs.Book.number_of Rattle.rules.specs.Book.due_of Rattle.rules.specs.Book.account_of Rattle.rules.specs.Book.security_of Rattle.rules.specs.Book.open_of Rattle.rules.specs.Book.list_of Rattle.rules.specs.Book.with_open Rattle.rules.specs.Book.with_list Rattle.rules.specs.Book.with_holdings Rattle.rules.specs.Book.with_charges Rattle.rules.specs.Book.with_day Rattle.rules.specs.Book.currency_of Rattle.rules.specs.Book.unlisted Rattle.rules.specs.Book.holding_at Rattle.rules.specs.Book.held_by Rattle.rules.specs.Book.charge_at Rattle.rules.specs.Book.charge_of Rattle.rules.specs.Book.charged Rattle.rules.specs.Book.empty_book Rattle.rules.specs.Trades.amount_of Rattle.rules.specs.Trades.is_excluded Rattle.rules.specs.Trades.used Rattle.rules.specs.Trades.stands Rattle.rules.specs.Trades.entered Rattle.rules.specs.Trades.replaced Rattle.rules.specs.Trades.amended Rattle.rules.specs.Trades.excluded Rattle.rules.specs.Trades.no_account Rattle.rules.specs.Trades.bad_accounts Rattle.rules.specs.Trades.no_security Rattle.rules.specs.Trades.bad_security Rattle.rules.specs.Trades.bad_quantity Rattle.rules.specs.Trades.bad_price Rattle.rules.specs.Trades.same_account Rattle.rules.specs.Sound.day_fits Rattle.rules.specs.Sound.is_code Rattle.rules.specs.Sound.codes_fit Rattle.rules.specs.Sound.ascends_from Rattle.rules.specs.Sound.ascends Rattle.rules.specs.Sound.is_blank Rattle.rules.specs.Sound.records_fit Rattle.rules.specs.Sound.is_position Rattle.rules.specs.Sound.sizes_fit Rattle.rules.specs.Sound.due_fits Rattle.rules.specs.Sound.is_due Rattle.rules.specs.Sound.due_nonzero Rattle.rules.specs.Sound.same_pair Rattle.rules.specs.Sound.agree Rattle.rules.specs.Sound.one_sign Rattle.rules.specs.Sound.balanced Rattle.rules.specs.Sound.due_balanced Rattle.rules.specs.Sound.by_account Rattle.rules.specs.Sound.added Rattle.rules.specs.Sound.totals Rattle.rules.specs.Sound.totals_held Rattle.rules.specs.Sound.total_held Rattle.rules.specs.Sound.holdings_fit Rattle.rules.specs.Sound.holds_listed Rattle.rules.specs.Sound.unlisted_empty Rattle.rules.specs.Sound.records_of Rattle.rules.specs.Sound.open_money Rattle.rules.specs.Sound.money_fits_of Rattle.rules.specs.Sound.money_fits_from Rattle.rules.specs.Sound.money_fits Rattle.rules.specs.Sound.distinct Rattle.rules.specs.Sound.valid_trade Rattle.rules.specs.Sound.zero_fields Rattle.rules.specs.Sound.trades_fit Rattle.rules.specs.Sound.sound Rattle.rules.specs.Nets.bought Rattle.rules.specs.Nets.sold Rattle.rules.specs.Nets.net Rattle.rules.specs.Nets.net_of Rattle.rules.specs.Nets.trades_of Rattle.rules.specs.Nets.nets Rattle.rules.specs.Parts.part_money Rattle.rules.specs.Parts.without Rattle.rules.specs.Parts.charged_to Rattle.rules.specs.Parts.charged_both Rattle.rules.specs.Roll.opposite Rattle.rules.specs.Roll.faces Rattle.rules.specs.Roll.smaller Rattle.rules.specs.Roll.in_front Rattle.rules.specs.Roll.against Rattle.rules.specs.Roll.offset_one Rattle.rules.specs.Roll.offset_all Rattle.rules.specs.Roll.remains Rattle.rules.specs.Roll.offset Rattle.rules.specs.Roll.uncharged Rattle.rules.specs.Roll.netted Rattle.rules.specs.Roll.emptied Rattle.rules.specs.Roll.next_day Rattle.rules.specs.Roll.rolled Rattle.rules.specs.Roll.open_plus_nets Rattle.rules.specs.Run.short_of Rattle.rules.specs.Run.long_of Rattle.rules.specs.Run.due_in Rattle.rules.specs.Run.givers_of Rattle.rules.specs.Run.givers Rattle.rules.specs.Run.receivers Rattle.rules.specs.Run.deliverable Rattle.rules.specs.Run.wanted Rattle.rules.specs.Run.leaving Rattle.rules.specs.Run.filled Rattle.rules.specs.Run.meetings_of Rattle.rules.specs.Run.meetings Rattle.rules.specs.Run.shares_moved Rattle.rules.specs.Run.taken_from Rattle.rules.specs.Run.charged_for Rattle.rules.specs.Run.moved Rattle.rules.specs.Run.met Rattle.rules.specs.Run.taken Rattle.rules.specs.Run.settled Rattle.rules.specs.Prices.entry_of Rattle.rules.specs.Prices.wrong_table Rattle.rules.specs.Prices.entry_above Rattle.rules.specs.Prices.from_closing Rattle.rules.specs.Prices.table_used Rattle.rules.specs.Prices.price_of Rattle.rules.specs.Prices.no_price Rattle.rules.specs.Prices.price_tests Rattle.rules.specs.Prices.price_answer Rattle.rules.specs.Prices.price_part Rattle.rules.specs.Prices.entry_spot Rattle.rules.specs.Prices.price_spot Rattle.rules.specs.Marks.rate_of Rattle.rules.specs.Marks.haircut_of Rattle.rules.specs.Marks.marked_of Rattle.rules.specs.Marks.mark_of Rattle.rules.specs.Marks.mark_at Rattle.rules.specs.Marks.lacks_price Rattle.rules.specs.Marks.sum_of Rattle.rules.specs.Marks.favourable_total Rattle.rules.specs.Marks.unfavourable_total Rattle.rules.specs.Marks.due_and_sums Rattle.rules.specs.Marks.wrong_terms Rattle.rules.specs.Marks.bad_rates Rattle.rules.specs.Marks.passes_limit Rattle.rules.specs.Marks.marks_tests Rattle.rules.specs.Marks.marks_number Rattle.rules.specs.Marks.marks Rattle.rules.specs.Marks.marks_figures Rattle.rules.specs.Marks.number_of_marks Rattle.rules.specs.Marks.figures_of_marks Rattle.rules.specs.Calls.bad_deposit Rattle.rules.specs.Calls.field_tests Rattle.rules.specs.Calls.holding_tests Rattle.rules.specs.Calls.tests Rattle.rules.specs.Calls.after Rattle.rules.specs.Calls.figure Rattle.rules.specs.Calls.answer_sound Rattle.rules.specs.Calls.answer Rattle.rules.specs.Calls.answer_bytes Rattle.rules.specs.Calls.after_bytes Rattle.rules.specs.Calls.figure_bytes Rattle.rules.specs.Calls.run_answer Rattle.rules.specs.Calls.number_of_run Rattle.rules.specs.Calls.figure_of_run Rattle.rules.specs.Calls.create_tests Rattle.rules.specs.Calls.create_answer Rattle.rules.specs.Calls.create_bytes Rattle.rules.specs.Records.length_of Rattle.rules.specs.Records.trade_in Rattle.rules.specs.Records.forms_of Rattle.rules.specs.Records.read_as Rattle.rules.specs.Records.is_cut Rattle.rules.specs.Records.front_of Rattle.rules.specs.Records.in_place Rattle.rules.specs.Records.record_at Rattle.rules.specs.Records.other_version Rattle.rules.specs.Records.too_long Rattle.rules.specs.Records.file_refused Rattle.rules.specs.Records.past_end Rattle.rules.specs.Records.answer_to Rattle.rules.specs.Records.record_answer Rattle.rules.specs.Records.bytes_after Rattle.rules.specs.Records.applies Rattle.rules.specs.Records.record_bytes Rattle.rules.specs.Records.number_of_record Rattle.rules.specs.Records.figure_of_record Rattle.rules.specs.Records.next_of_record Rattle.rules.specs.Records.number_at Rattle.rules.specs.Records.record_number Rattle.rules.specs.Records.figure_at Rattle.rules.specs.Records.record_figure Rattle.rules.specs.Records.next_at Rattle.rules.specs.Records.record_next Rattle.rules.specs.CallFile.is_unreadable Rattle.rules.specs.CallFile.records_from Rattle.rules.specs.CallFile.behind_version Rattle.rules.specs.CallFile.records_in Rattle.rules.specs.CallFile.before Rattle.rules.specs.CallFile.contents Rattle.rules.specs.CallFile.contents_of Rattle.rules.specs.CallFile.answered Rattle.rules.specs.CallFile.left Rattle.rules.specs.CallFile.played Rattle.rules.specs.CallFile.played_from Rattle.rules.specs.CallFile.nineteen Rattle.rules.specs.CallFile.file_of Rattle.rules.specs.CallFile.answers_of Rattle.rules.specs.CallFile.whole_refused Rattle.rules.specs.CallFile.whole_answer Rattle.rules.specs.CallFile.whole_size Rattle.rules.specs.CallFile.whole_answers Rattle.rules.specs.CallFile.bytes_left Rattle.rules.specs.CallFile.whole_bytes Rattle.rules.specs.Sheet.digits_by Rattle.rules.specs.Sheet.decimal Rattle.rules.specs.Sheet.signed_decimal Rattle.rules.specs.Sheet.spaced Rattle.rules.specs.Sheet.text_of Rattle.rules.specs.Sheet.answer_line Rattle.rules.specs.Sheet.answer_lines Rattle.rules.specs.Sheet.open_line Rattle.rules.specs.Sheet.charge_line Rattle.rules.specs.Sheet.charge_lines Rattle.rules.specs.Sheet.book_lines Rattle.rules.specs.Sheet.ended Rattle.rules.specs.Sheet.lines_of Rattle.rules.specs.Sheet.refused_sheet Rattle.rules.specs.Sheet.sheet_of Rattle.rules.specs.Sheet.sheet_refused Rattle.rules.specs.Sheet.sheet_answer Rattle.rules.specs.Sheet.sheet_size Rattle.rules.specs.Sheet.sheet_bytes Rattle.rules.specs.Sheet.sheet_book Rattle.rules.specs.Sheet.line_answer Rattle.rules.specs.Sheet.line_part Rattle.rules.specs.Sheet.line_spot Rattle.rules.specs.Sheet.line_bytes Rattle.rules.specs.Sheet.line_tally Rattle.rules.specs.Written.hex_with Rattle.rules.specs.Written.hex Rattle.rules.specs.Written.created Rattle.rules.specs.Written.at Rattle.rules.specs.Written.deal Rattle.rules.specs.Written.book_with Rattle.rules.specs.Written.next Rattle.rules.specs.Written.answers Rattle.rules.specs.Written.through Rattle.rules.specs.Written.shown Rattle.integers.specs.Bits.bits_of Rattle.integers.specs.Bits.value_of Rattle.fields.specs.Field.field Rattle.fields.specs.Field.digits Rattle.fields.specs.Field.stored Rattle.units_rounded.specs.Part.part_of Rattle.units_rounded.specs.Conversion.favourable_of Rattle.units_rounded.specs.Conversion.unfavourable_of
values = tt
