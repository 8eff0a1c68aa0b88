-- A case is computed by opening every definition on the way from the bytes of a pack to the rows of the tables. `opened` is a name for all of them, which each file
-- of cases cites; what it is itself says nothing.
-- Assumes nothing.
use mathlib.Core.List.{flat_map}
use Rattle.wire.specs.Le.{le, le_bytes}
use Rattle.wire.specs.Same.{same}
use Rattle.wire.specs.Order.{lt_key}
use Rattle.ids.specs.Keys.{zero_key}
use Rattle.ids.specs.Ids.{ids, is_wrapped_sol}
use Rattle.ids.specs.Which.{of_number, row_from, which, program_at}
use Rattle.pack.specs.Invocation.{instruction_at}
use Rattle.pack.specs.Sections.{mark, marked, start_of, ordered, has_section, section_of}
use Rattle.pack.specs.Items.{rows, rows_fill, keys_fill, item_end, outers_from, outers_fill, height_at, height_good, inners_end, inners_good, inners_from, group_end, group_good, group_at, groups_from, groups_fill}
use Rattle.pack.specs.View.{keys_in, balances_in, balances_named, outer_in, groups_in, pools_in, view_of}
use Rattle.pack.specs.Flatten.{numbered, inside, flatten_from, flatten}
use Rattle.pack.specs.Verdict.{verdict}
use Rattle.token.specs.Programs.{is_token, is_token2022, is_spl}
use Rattle.token.specs.Tokens.{initialises, plain_transfer, checked_transfer, fee_transfer}
use Rattle.token.specs.Records.{both_ends, records, plain}
use Rattle.token.specs.Transfers.{fee_of, plainly, checked, transfer}
use Rattle.token.specs.Published.{starts, one_of, total, size, place, standing, role, transfer_layout, transfer_checked, transfer_checked_with_fee}
use Rattle.token.specs.Reasons.{transfer_layouts, begins_as, lacks_key, lacking, reason_among, reason}
use Rattle.token.specs.Rows.{transfer_row}
use Rattle.natives.specs.Natives.{is_system, funds, syncs, closes, asked, indexes_below, wrapped, counted, native_action}
use Rattle.natives.specs.Rows.{fields_of}
use Rattle.swaps.specs.Data.{is}
use Rattle.swaps.specs.Clmm.{clmm}
use Rattle.swaps.specs.Orca.{orca}
use Rattle.swaps.specs.Cpmm.{cpmm}
use Rattle.swaps.specs.LaunchLab.{launch_lab}
use Rattle.swaps.specs.PumpFun.{pump_fun}
use Rattle.swaps.specs.Leg.{contains, valued}
use Rattle.swaps.specs.Dlmm.{slices, slices_fit, swap_layout, dlmm}
use Rattle.swaps.specs.PumpSwap.{pump_swap}
use Rattle.swaps.specs.AmmV4.{amm_v4}
use Rattle.swaps.specs.Swap.{by_program, swap}
use Rattle.swaps.specs.Row.{end_bytes, key_bytes, leg_row}
use Rattle.evidence.specs.Gather.{gather}
use Rattle.evidence.specs.Table.{lookup}
use Rattle.evidence.specs.Evidence.{put, note, note_all, recorded}
use Rattle.evidence.specs.Passes.{fill, spread, step, pass}
use Rattle.evidence.specs.Run.{once_more, run}
use Rattle.evidence.specs.Infer.{run_from, infer}
use Rattle.evidence.specs.Sorted.{insert, sort}
use Rattle.evidence.specs.Final.{clean, final}
use Rattle.evidence.specs.Marks.{against, is_mint, gives, reaches, reaching, another, several, absent, mark_of}
use Rattle.evidence.specs.MintTable.{mint_table, finish, mints, mint_in}
use Rattle.mints.specs.Inference.{balance_says, says, moves, evidence_of, transfers_of, inferred}
use Rattle.subtrees.specs.Descendant.{higher, inners, descendant}
use Rattle.subtrees.specs.Blocks.{first_not, any_in, count_in, sum_in, atop, tests_at}
use Rattle.subtrees.specs.Parents.{last_below, parent_at}
use Rattle.wire.specs.Tab.{tab}
use Rattle.subtrees.specs.Subtrees.{position_in, within, inside_of}
use Rattle.route.specs.Lay.{rows_of, placed}
use Rattle.route.specs.Row.{flagged, invocation_row}
use Rattle.route.specs.Transfers.{transfer_of, transfer_rows, reason_in}
use Rattle.route.specs.Legs.{leg_of, leg_rows}
use Rattle.route.specs.Actions.{action_of, action_rows}
use Rattle.route.specs.Program.{program_bits}
use Rattle.route.specs.Tables.{item, own_of, flags_of, leg_number, invocation_at, tables_with, tables_if, tables}
use Rattle.route.specs.Route.{refused, accepted, fitted, passed, judged, route}

unfoldable pub opened : Type 1
unfolding flat_map le le_bytes same zero_key ids of_number row_from which program_at instruction_at mark marked start_of ordered has_section section_of rows rows_fill keys_fill item_end outers_from outers_fill height_at height_good inners_end inners_good inners_from group_end group_good group_at groups_from groups_fill keys_in balances_in balances_named outer_in groups_in pools_in view_of numbered inside flatten_from flatten verdict is_token is_token2022 initialises plain_transfer checked_transfer fee_transfer both_ends records plain fee_of plainly checked transfer starts one_of total size place standing role transfer_layout transfer_checked transfer_checked_with_fee transfer_layouts begins_as lacks_key lacking reason_among reason transfer_row is_spl is_system funds syncs closes asked indexes_below wrapped counted native_action fields_of is clmm orca cpmm launch_lab is_wrapped_sol pump_fun contains slices slices_fit swap_layout dlmm pump_swap amm_v4 valued by_program swap end_bytes key_bytes leg_row lt_key gather lookup put note note_all recorded fill spread step pass once_more run run_from infer insert sort clean final against is_mint gives reaches reaching another several absent mark_of mint_table finish mints mint_in balance_says says moves evidence_of transfers_of inferred higher inners descendant first_not any_in count_in sum_in atop tests_at last_below parent_at tab position_in within inside_of rows_of placed flagged invocation_row transfer_of transfer_rows reason_in leg_of leg_rows action_of action_rows program_bits item own_of flags_of leg_number invocation_at tables_with tables_if tables refused accepted fitted passed judged route
opened = Type 0
