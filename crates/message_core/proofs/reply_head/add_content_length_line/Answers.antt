use Rattle.std.proofs.Common.{◌≡◌, ◌++◌, ◌∙◌, ap, append_assoc, codes, decimal, List, ℕ}
use Rattle.message_core.specs.ReplyHead.{content_length_line}
use Rattle.message_core.proofs.PieceLemmas.{then_added}
use Rattle.message_core.proofs.reply_head.add_content_length_line.Goals as goal

pub returns-clause-added : goal.returns-clause-added
unfolding content_length_line
returns-clause-added c =
    let front = codes "\r\nContent-Length: " in
    let number = decimal c.args.bytes in
    let out = c.args.out.now.items in
    let two : c.add_number.new.out.items ≡ out ++ (front ++ number) =
    c.in_ok-add_number.ensures.added
    ∙ ap (λ (l : List ℕ). l ++ number) c.in_ok-add_text.ensures.added ∙ append_assoc out front number in
    then_added c.add_text-2.result out c.add_number.new.out.items c.add_text-2.new.out.items
    (front ++ number) (codes "\r\n") two c.add_text-2.ensures.added
