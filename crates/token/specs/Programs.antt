-- Which programs the token instructions belong to.
-- Assumes nothing.
use Rattle.std.specs.Prelude.{Bool, ◌||◌}
use Rattle.ids.specs.declared.Id.{Id}
use Rattle.ids.specs.declared.Id.TheVariants.{SplToken, Token2022}
use Rattle.ids.specs.Which.{same_id}

-- the Rust's `token_program`: SPL Token or Token-2022
unfoldable pub is_token : Id → Bool
is_token id = same_id id SplToken || same_id id Token2022

unfoldable pub is_spl : Id → Bool
is_spl id = same_id id SplToken

unfoldable pub is_token2022 : Id → Bool
is_token2022 id = same_id id Token2022
