use Rattle.feed.proofs.Calls.{sounds}
use mathlib.Core.Bool.{true≢false}
use borrow.Author.Tests.{lt-leb}
use Rattle.std.proofs.Common.{rules, ◌≡◌, true, sym, ◌∙◌}
use Rattle.feed.proofs.cable.is_sound.Goals as goal
use Rattle.feed.proofs.cable.is_sound.Goals.{then-held-buffer, else-held-buffer}

pub returns-then-fits : goal.returns-then-fits
returns-then-fits c =
    elim c.if-held-buffer.branch [
      | then-held-buffer w ↦ let fit : w.fits.result ≡ true = sym w.value-is ∙ c.if-fits.true in search (sounds, rules)
      | else-held-buffer w ↦ absurd (true≢false (sym c.if-fits.true ∙ w.value-is ∙ lt-leb _ _ w.if-held-buffer.false))
    ]

pub returns-else-fits : goal.returns-else-fits
returns-else-fits c =
    elim c.if-held-buffer.branch [
      | then-held-buffer w ↦ rw w.value-is (let unfit = sym w.value-is ∙ c.if-fits.false in search (sounds, rules))
      | else-held-buffer w ↦ rw w.value-is (search (sounds, rules))
    ]
