use Rattle.std.proofs.Common.{sym, ap, ◌∙◌, drop, ◌==◌}
use Rattle.std.specs.List.{position}
use Rattle.text.proofs.Feeds.{at_feed, feed_is}
use Rattle.text.proofs.line.line_end.Goals as goal

pub returns-in-Some-clause-value : goal.returns-in-Some-clause-value
returns-in-Some-clause-value c =
    sym (ap (at_feed c.args.line c.args.at) c.in-Some.is) ∙ ap (at_feed c.args.line c.args.at) c.find.ensures.place
    ∙ ap (λ xs. at_feed c.args.line c.args.at (position (λ b. b == 10) xs)) c.rest_from.ensures.rest ∙ sym (feed_is c.args.line c.args.at (drop c.args.at c.args.text.now))

pub returns-in-None-clause-value : goal.returns-in-None-clause-value
returns-in-None-clause-value c =
    sym (ap (at_feed c.args.line c.args.at) c.in-None.is) ∙ ap (at_feed c.args.line c.args.at) c.find.ensures.place
    ∙ ap (λ xs. at_feed c.args.line c.args.at (position (λ b. b == 10) xs)) c.rest_from.ensures.rest ∙ sym (feed_is c.args.line c.args.at (drop c.args.at c.args.text.now))
