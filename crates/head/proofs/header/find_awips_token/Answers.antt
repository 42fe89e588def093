use Rattle.std.proofs.Common.{◌≡◌, arith, min, length, length-take, ◌∙◌, ap, take}
use Rattle.std.proofs.lemmas.List.{take_min}
use Rattle.head.specs.Header.{token, cut, first_token}
use Rattle.head.proofs.header.find_awips_token.Goals as goal

pub slice_bounds-token_of-end : goal.slice_bounds-token_of-end
slice_bounds-token_of-end c = omega (arith, length-take c.min.result c.args.file.now)

pub returns : goal.returns
unfolding token
returns c =
    let e : c.min.result ≡ min 128 (length c.args.file.now) = omega arith in
    c.token_of.ensures ∙ ap (λ t. first_token 0 (cut t)) (ap (λ n. take n c.args.file.now) e ∙ take_min 128 c.args.file.now)
