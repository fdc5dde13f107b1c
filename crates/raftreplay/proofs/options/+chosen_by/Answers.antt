use Rattle.std.proofs.Common.{rules, ◌∙◌, sym}
use Rattle.raftreplay.proofs.WordPairs.{two_words}
use Rattle.raftreplay.proofs.options.+chosen_by.Goals as goal

pub returns-in_ok-more-in-len2-up-clause-value : goal.returns-in_ok-more-in-len2-up-clause-value
returns-in_ok-more-in-len2-up-clause-value t c =
    c.chosen_by.ensures.value ∙ sym (two_words c.args.chosen c.in_ok-more-in-len2-up.more c.args.words.now c.name-item.result c.number-item.result c.in-len2-up.len_at_least c.name-item.is c.number-item.is (search rules))
