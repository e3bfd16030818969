use Rattle.read_source.proofs.Checks.{no_table, no_list, too_long}
use Rattle.read_source.proofs.checking.load.Goals as goal
use Rattle.read_source.proofs.checking.load.Goals.{then-words-ne-TABLE_WORDS-via-then-words-ne-TABLE_WORDS, then-words-ne-TABLE_WORDS-via-else-words-ne-TABLE_WORDS+then-names-ne-NAME_WORDS}

pub returns-then-words-ne-TABLE_WORDS : goal.returns-then-words-ne-TABLE_WORDS
returns-then-words-ne-TABLE_WORDS c =
    elim c.then-words-ne-TABLE_WORDS.branch [
      | then-words-ne-TABLE_WORDS-via-then-words-ne-TABLE_WORDS w ↦
          let both = no_table _ _ _ w.if-words-ne-TABLE_WORDS.true c.new.ensures in record { checks = both.0; loads = both.1 }
      | then-words-ne-TABLE_WORDS-via-else-words-ne-TABLE_WORDS+then-names-ne-NAME_WORDS w ↦
          let both = no_list _ _ _ w.if-words-ne-TABLE_WORDS.false w.if-names-ne-NAME_WORDS.true c.new.ensures in record { checks = both.0; loads = both.1 }
    ]

pub returns-then-source-gt-MOST_BYTES : goal.returns-then-source-gt-MOST_BYTES
returns-then-source-gt-MOST_BYTES c =
    let both = too_long _ _ _ c.if-words-ne-TABLE_WORDS.false c.if-names-ne-NAME_WORDS.false c.if-source-gt-MOST_BYTES.true c.new-then-source-gt-MOST_BYTES.ensures in
    record { checks = both.0; loads = both.1 }
