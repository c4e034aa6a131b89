-- The three returns are the three answers of `words_of`. Assumes nothing.
use mathlib.Core.Path.{sym}
use Rattle.book.specs.Book.{most_words}
use Rattle.book.specs.Shape.{words_whole, words_odd, words_many}
use Rattle.book.proofs.words_of.Goals as goal

pub returns-then-n-ne0 : goal.returns-then-n-ne0
returns-then-n-ne0 c = sym (words_odd _ c.if-n-ne0.true)

pub returns-then-k-gt-MOST_WORDS : goal.returns-then-k-gt-MOST_WORDS
unfolding most_words
returns-then-k-gt-MOST_WORDS c = sym (words_many _ c.if-k-gt-MOST_WORDS.true)

pub returns : goal.returns
unfolding most_words
returns c = sym (words_whole _ c.if-n-ne0.false c.if-k-gt-MOST_WORDS.false)
