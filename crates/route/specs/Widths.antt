-- The bytes of a row of each table, each number from where its row is defined.
-- Assumes nothing.
pub use Rattle.token.specs.Rows.{transfer_width}
pub use Rattle.natives.specs.Rows.{action_width}
pub use Rattle.swaps.specs.Row.{leg_width}
pub use Rattle.mints.specs.Bytes.{mint_width}
pub use Rattle.route.specs.Row.{invocation_width}
