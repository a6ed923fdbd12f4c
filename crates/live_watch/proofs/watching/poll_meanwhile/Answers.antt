use Rattle.std.proofs.Common.{◌∙◌}
use Rattle.evidence_board.specs.Views.{seen_sheet}
use Rattle.live_watch.proofs.Polling.{news_told, news_untold}
use Rattle.live_watch.proofs.watching.poll_meanwhile.Goals as goal

pub loop-init : goal.loop-init
loop-init g c =
    let first = c.poll-watcher.result in
    let news = c.poll-watcher.ensures.news in
    record {
      board = c.poll-watcher.ensures.board;
      share = c.poll-watcher.ensures.share;
      given = c.poll-watcher.ensures.given;
      told = news_told (seen_sheet first.0.seat.view) c.args.watcher.told first.0.told first.1 news;
      untold = news_untold (seen_sheet first.0.seat.view) c.args.watcher.told first.0.told first.1 news;
    }

pub loop-preserved : goal.loop-preserved
loop-preserved g c =
    let was = c.loop.invariant in
    let next = c.poll-next.result in
    let news = c.poll-next.ensures.news in
    record {
      board = c.poll-next.ensures.board;
      share = c.poll-next.ensures.share ∙ was.share;
      given = c.poll-next.ensures.given ∙ was.given;
      told = λ call told. news_told (seen_sheet next.0.seat.view) c.loop.watcher.told next.0.told next.1 news call (was.told call told);
      untold = news_untold (seen_sheet next.0.seat.view) c.loop.watcher.told next.0.told next.1 news;
    }
