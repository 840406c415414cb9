use Rattle.std.proofs.Common.{◌∙◌, sym, ap, arith}
use Rattle.std.proofs.lemmas.Str.Pattern.{starts_char}
use Rattle.bench.specs.Numerals.{radix, value_of}
use Rattle.bench.proofs.Values.{parsed, signed}
use Rattle.bench.proofs.numerals.value.Goals as goal

pub returns-then-starts_with : goal.returns-then-starts_with
returns-then-starts_with c =
    let s = starts_char 43 c.args.digits.now _ c.starts_with.ensures.cases (omega arith) (omega arith) in
    sym (signed (radix c.args.base) c.args.digits.now (s.0 c.if-starts_with.true))

pub returns : goal.returns
returns c =
    let s = starts_char 43 c.args.digits.now _ c.starts_with.ensures.cases (omega arith) (omega arith) in
    c.ok.ensures.value
    ∙ parsed c.radix.result c.args.digits.now _ (omega arith) c.radix.ensures.high (λ e. cc (s.1 e)) c.from_str_radix.ensures.value
    ∙ ap (λ base. value_of base c.args.digits.now) c.radix.ensures.exact
