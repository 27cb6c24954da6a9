-- a queue is opened by its own words
use Rattle.desk_core.proofs.beforehand.refused_words.Goals as goal

pub returns-in-OpenQueue : goal.returns-in-OpenQueue
returns-in-OpenQueue c = λ at caller.
    rw c.in-OpenQueue.is (c.refused_queue.ensures at caller)
