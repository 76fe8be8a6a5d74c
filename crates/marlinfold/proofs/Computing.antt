-- What a table of calls computes with: to unfold `computing` is to unfold all of it.
use Rattle.blocks.specs.Field as Field
use Rattle.blocks.specs.Header as Header
use Rattle.blocks.specs.Character as Character
use Rattle.pictures.specs.Runs as Runs
use Rattle.pictures.specs.Picture as Picture
use Rattle.pictures.specs.Dots as Dots
use Rattle.pictures.specs.Rows as Rows
use Rattle.form.specs.Num as Num
use Rattle.form.specs.Model as Model
use Rattle.form.specs.Order as Order
use Rattle.form.specs.Checks as Checks
use Rattle.store.specs.Calls as Store
use Rattle.store.specs.Download as Download
use Rattle.store.specs.Drawing as Drawing
use Rattle.form.specs.Records as Records
use Rattle.form.specs.Fonts as Fonts
use Rattle.choice.specs.Lists as Lists
use Rattle.choice.specs.Candidates as Candidates
use Rattle.choice.specs.Fields as Fields
use Rattle.choice.specs.Request as Request
use Rattle.choice.specs.Steps as Steps
use Rattle.choice.specs.Choosing as Choosing
use Rattle.sheet.specs.Sheet as Sheet
use Rattle.turning.specs.Turn as Turn
use Rattle.stream.specs.Written as Written
use Rattle.stream.specs.Writing as Writing
use Rattle.stream.specs.Digits as Digits
use Rattle.stream.specs.Command as Command
use Rattle.stream.specs.Reading as Reading
use Rattle.collection.specs.Figures as Figures
use Rattle.salvage.specs.Salvage as Salvage
use Rattle.profile.specs.Profile as Profile
use Rattle.cartridge.specs.Cartridge as Cartridge
use Rattle.marlinfold.specs.Calls.{ran}
use Rattle.marlinfold.specs.Trials as Trials

unfoldable pub computing : Unit {0}
unfolding Field.signed Field.signed_within Field.negative Header.own_bytes Header.read_header Header.first_bytes Header.fix_header Header.kept_header Header.is_kept_header Header.own_header Character.character_length Character.kind_of Character.read_first Character.fix_first Character.kept_first Character.is_kept_first Runs.fill_row Runs.end_row Runs.step_run Runs.scan_from Picture.judge Picture.kept_data Picture.held Dots.bits Dots.pack Rows.rows_from Rows.runs_row Rows.row_dots Rows.row_bytes Rows.picture Num.◌and◌ Num.num Num.low_first Num.all_zero Model.tally_of Model.tally_bytes Model.character_bytes Model.holds_tally Model.counted Model.font_head Model.character_head Model.bytes_of Model.run Model.mark_bytes Model.encode Model.number Model.place Model.owner_after Model.held_under Model.allowed Model.sorted Model.unfinished Model.opened Model.mark_ok Model.only_if Model.head_rec Model.size_of Model.total Model.cons_to Model.and_then Model.split_in Model.split Model.begins Model.valid_or Model.decode Order.keep Order.find_record Checks.on_store Checks.finding Checks.on_character Store.making_fresh Store.closed_for Store.downloading_font Download.mark_for Download.downloading_character Drawing.row_of Drawing.picture_of Drawing.drawing_row Drawing.drawing_picture Fonts.fonts_in Records.is_store Records.records_in Records.records_of Fonts.fonts_of Checks.on_font Store.characters_of Store.closed_at Store.removing_font Store.removing_character Store.telling_font Store.telling_character Written.written_record Written.written_run Written.written Written.continuation Written.writing_font Writing.spelling Writing.set_font Writing.set_code Writing.font_block_head Writing.font_block_command Writing.character_block_head Writing.character_block_command Digits.decimal_in Digits.decimal_of Command.leading_digits Command.spelled Command.number_of Command.starts_with Command.number_command Command.is_block Command.block_of Command.command Command.moved_by Command.command_at Reading.with_number Reading.with_code Reading.onward Reading.spelled_in Reading.spelled_from Reading.first_run Reading.count_answer Reading.making Reading.obey Reading.obey_all Reading.read_from Reading.end_answer Reading.reading Salvage.restart_in Salvage.restart_from Salvage.salvage_in Salvage.salvage_of Salvage.list_of Salvage.salvaging ran Trials.formed Trials.extended Trials.header Trials.finer Trials.A Trials.B Trials.C Trials.D Trials.E Trials.like Trials.bold Trials.landscape Trials.resolved Trials.fine Trials.coarse70 Trials.four_fonts Trials.request_in Trials.request_with Trials.asks_in Trials.asks Trials.first_block Trials.sending Trials.sending_more Trials.ten_by_two Trials.typed Trials.letter_record Trials.plain_letter Trials.plain_letters Trials.spine Trials.store_after Lists.having Lists.every Lists.or_if_empty Lists.prefer Lists.least Lists.greatest Fields.as_bytes Fields.is_fixed Fields.is_fine Fields.compared_pitch Fields.compared_height Fields.weight_of Request.asked_weight Request.in_range Steps.has_set Steps.in_mode Steps.takes_part Steps.by_set Steps.has_spacing Steps.by_spacing Steps.qualifies Steps.by_pitch Steps.height_distance Steps.height_off Steps.by_height Steps.has_style Steps.by_style Steps.exact Steps.is_thicker Steps.is_thinner Steps.nearest_thicker Steps.nearest_thinner Steps.by_weight Steps.has_typeface Steps.by_typeface Steps.by_resolution Steps.by_store Candidates.candidates Candidates.of_both Choosing.choosing_from_two Cartridge.record_answer Cartridge.answering_from_two Steps.has_orientation Steps.by_orientation Steps.by_number Steps.steps Steps.worked Steps.fonts_left Steps.first_number Steps.choice Choosing.choosing_among Choosing.choosing Sheet.choosing_sheet Turn.each Turn.picture_rows Turn.column_of Turn.columns Turn.turn_rows Turn.pack_rows Turn.turned Turn.turnable Turn.turning_picture Rows.bitmap_row Dots.dots_in Dots.unpack Figures.adding_figures Figures.figures_taken Profile.left_inside Profile.right_inside Profile.height_inside Profile.advances_by_pitch Profile.lowest_breaking Profile.first_broken Profile.broken_in Profile.checking_profile Profile.writing_profiled
computing = tt
