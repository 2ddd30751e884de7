use Rattle.std.proofs.Common.{◌≡◌, ap, ◌∙◌}
use Rattle.cat_text.specs.Placing.{letter, first}
use Rattle.cat_text.proofs.Placing.{quote_put}
use Rattle.cat_text.proofs.printing.put_quote.Goals as goal

pub returns-clause-puts : goal.returns-clause-puts
returns-clause-puts c =
    let front : c.first_of-first.result ≡ first c.args.byte (letter c.args.byte) = c.first_of-first.ensures ∙ ap (first c.args.byte) c.letter_of-letter.ensures in
    quote_put c.args.byte c.args.at c.put_four-end.result c.width_of.result c.first_of-first.result c.letter_of-letter.result c.digit_of.result c.digit_of-2.result c.args.out.now c.put_four-end.new.out c.requires.room front c.letter_of-letter.ensures c.digit_of.ensures c.digit_of-2.ensures c.width_of.ensures c.put_four-end.ensures.end c.put_four-end.ensures.puts
