use Rattle.std.proofs.Common.{◌∙◌, sym}
use Rattle.head.proofs.Token.{token_found_in, none_found_in}
use Rattle.head.proofs.header.token_in.Goals as goal

pub returns-then-is_token : goal.returns-then-is_token
returns-then-is_token c = token_found_in _ _ _ c.trim_ascii_start-inner.ensures.value c.trim_ascii_end.ensures.value (sym c.is_token.ensures ∙ c.if-is_token.true)

pub returns-else-is_token : goal.returns-else-is_token
returns-else-is_token c = none_found_in _ _ _ c.trim_ascii_start-inner.ensures.value c.trim_ascii_end.ensures.value (sym c.is_token.ensures ∙ c.if-is_token.false)
