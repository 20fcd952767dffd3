use Rattle.measured.proofs.watched.watch.Goals as goal

-- the run that was made, whose answer stands in what the device saw
pub returns : goal.returns
returns g c = (_, _, rw (← c.seen.ensures.0) at c.run-done.ensures)
