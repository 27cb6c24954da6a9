-- the line so far, then its name and text, then whether it goes by HTTPS alone
use Rattle.page_reply.proofs.CookieLemmas.{put_start}
use Rattle.page_reply.proofs.reply.add_cookie.Goals as goal

pub returns : goal.returns
returns c =
    put_start c.args.https c.args.text.now c.add_text-2.result c.args.out.now.items
    c.add_text.new.out.items c.add_three.new.out.items c.add_text-2.new.out.items
    c.cookie_name.result.now c.secure.result.now c.in_ok-add_text.ensures.added
    c.cookie_name.ensures c.in_ok-add_three.ensures.added c.secure.ensures
    c.add_text-2.ensures.added
